-- `lines::read_spaced_number` meets its contract, by the laws of SpacedNumbers.
use Rattle.reader.proofs.SpacedNumbers.{spaced_none, spaced_some}
use Rattle.reader.proofs.lines.read_spaced_number.Goals as goal

pub returns-in_err-after : goal.returns-in_err-after
returns-in_err-after c = rw c.from_residual.ensures (spaced_none _ _ c.in_err-after.ensures)

pub returns : goal.returns
returns c = spaced_some _ _ _ c.in_ok-after.ensures _ c.read_number.ensures
