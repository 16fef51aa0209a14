-- `lines::read_arity` meets its contract, by the laws of SpacedNumbers.
use Rattle.reader.proofs.SpacedNumbers.{arity_missing, arity_unparted, arity_read}
use Rattle.reader.proofs.lines.read_arity.Goals as goal

pub returns-in_err-s : goal.returns-in_err-s
returns-in_err-s c = rw c.from_residual.ensures (arity_missing _ _ c.in_err-s.ensures)

pub returns-in_err-next : goal.returns-in_err-next
returns-in_err-next c = rw c.from_residual-in_err-next.ensures (arity_unparted _ _ _ c.in_ok-s.ensures c.in_err-next.ensures)

pub returns : goal.returns
returns c = arity_read _ _ _ c.in_ok-s.ensures _ c.in_ok-next.ensures
