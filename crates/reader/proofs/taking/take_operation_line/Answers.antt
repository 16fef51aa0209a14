-- `taking::take_operation_line` meets its contract, by the laws of TakenLines.
use Rattle.equivalence.proofs.Refusals.{handed_on}
use Rattle.reader.proofs.TakenLines.{operation_untaken, arity_place, operation_taken}
use Rattle.reader.proofs.taking.take_operation_line.Goals as goal

pub returns-in_err-line : goal.returns-in_err-line
returns-in_err-line c =
    rw (handed_on c.from_residual.ensures.1) (operation_untaken _ _ _ _ c.requires.readable c.requires.in_bounds _ _ c.in_err-line.ensures)

pub bounds-arities-operations : goal.bounds-arities-operations
bounds-arities-operations c = arity_place _ _ _ _ c.requires.readable c.requires.in_bounds _ _ c.in_ok-line.ensures

pub returns : goal.returns
returns c = operation_taken _ _ _ _ c.requires.readable c.requires.in_bounds _ _ c.in_ok-line.ensures
