-- `reading::read_whole` meets its contract, by the laws of Taking.
use native.Mathlib.Omega.{arith}
use Rattle.algebratext.proofs.Taking.{whole_refused, whole_read}
use Rattle.algebratext.proofs.reading.read_whole.Goals as goal

pub returns-in_err-algebra-clause-cells_after : goal.returns-in_err-algebra-clause-cells_after
returns-in_err-algebra-clause-cells_after c = whole_refused _ _ c.in_err-algebra.ensures c.from_residual.ensures.1

pub returns-clause-cells_after : goal.returns-clause-cells_after
returns-clause-cells_after c = whole_read _ _ _ _ c.in_ok-algebra.ensures _ (omega arith) (omega arith) _ _ c.write_word.ensures
