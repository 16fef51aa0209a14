-- `write_spaced` meets its contract: where the largest number is below 10 or 64, all are.
use Rattle.writer.proofs.Bounds.{largest_below}
use Rattle.writer.proofs.write_spaced.Goals as goal

pub write_digits-requires-clause-numbers_below : goal.write_digits-requires-clause-numbers_below
write_digits-requires-clause-numbers_below c = search largest_below

pub write_mixed-requires-clause-numbers_below : goal.write_mixed-requires-clause-numbers_below
write_mixed-requires-clause-numbers_below c = search largest_below
