-- `lines::check_operation` meets its contract, by the laws of Judging.
use native.Mathlib.Omega.{arith}
use Rattle.reader.proofs.Judging.{above_operations, above_arity, above_cells, passed}
use Rattle.algebra.proofs.Powers.{power_small}
use Rattle.reader.proofs.lines.check_operation.Goals as goal

pub returns-then-operations-gt-MAX_OPERATIONS : goal.returns-then-operations-gt-MAX_OPERATIONS
returns-then-operations-gt-MAX_OPERATIONS c = search above_operations

pub returns-then-s-gt-MAX_ARITY : goal.returns-then-s-gt-MAX_ARITY
returns-then-s-gt-MAX_ARITY c = search above_arity

pub overflow_add-cells : goal.overflow_add-cells
overflow_add-cells c = let a = c.args in
    omega (arith, power_small a.n a.s (omega arith) (omega arith), c.power.ensures)

pub returns-then-cells-power-gt-MAX_CELLS : goal.returns-then-cells-power-gt-MAX_CELLS
returns-then-cells-power-gt-MAX_CELLS c = search above_cells

pub returns : goal.returns
returns c = search passed
