-- `requests::read_items_to_end` meets its contract, by the laws of Asking.
use Rattle.reader.proofs.Asking.{to_end_fault, to_end_open, to_end_closed}
use Rattle.reader.proofs.requests.read_items_to_end.Goals as goal

pub returns-in_err-items : goal.returns-in_err-items
returns-in_err-items c = rw c.from_residual.ensures (to_end_fault _ _ _ _ _ _ c.in_err-items.ensures)

pub returns-in_err-next : goal.returns-in_err-next
returns-in_err-next c =
    rw c.from_residual-in_err-next.ensures (to_end_open _ _ _ _ _ _ _ c.in_ok-items.ensures c.in_err-next.ensures)

pub returns : goal.returns
returns c = to_end_closed _ _ _ _ _ _ _ c.in_ok-items.ensures _ c.in_ok-next.ensures
