-- `read_algebra`: 9, or what the whole text comes to, by the laws of Taking.
use Rattle.algebratext.proofs.Taking.{read_short, read_enough}
use Rattle.algebratext.proofs.read_algebra.Goals as goal

pub returns-then-cells-lt-MAX_CELLS-clause-cells_after : goal.returns-then-cells-lt-MAX_CELLS-clause-cells_after
returns-then-cells-lt-MAX_CELLS-clause-cells_after c = search read_short

pub returns-clause-cells_after : goal.returns-clause-cells_after
returns-clause-cells_after c = search read_enough
