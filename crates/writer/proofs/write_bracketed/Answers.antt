-- `write_bracketed` meets its contract: no number is above the largest.
use Rattle.writer.proofs.Bounds.{largest_bounds}
use Rattle.writer.proofs.write_bracketed.Goals as goal

pub write_row-requires-clause-numbers_below : goal.write_row-requires-clause-numbers_below
write_row-requires-clause-numbers_below c = search largest_bounds
