-- `requests::read_asking` meets its contract, by the laws of Asking.
use Rattle.reader.proofs.Asking.{items_unasked, items_asked}
use Rattle.reader.proofs.requests.read_asking.Goals as goal

pub returns-in_err-items : goal.returns-in_err-items
returns-in_err-items c = rw c.from_residual.ensures (items_unasked _ _ _ _ _ _ _ c.in_err-items.ensures)

pub returns : goal.returns
returns c = items_asked _ _ _ _ _ _ _ _ c.in_ok-items.ensures
