-- `write_by_table` meets its contract, by the laws of Spacing.
use Rattle.writer.proofs.Spacing.{Spaced}
use Rattle.writer.proofs.write_by_table.Given as goal

abbrev pub invariant-loop-v : goal.invariant-loop-v
invariant-loop-v l = Spaced l.initial.out l.put l.m l.out l.at l.v-index
