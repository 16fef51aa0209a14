-- `short::write_digits` meets its contract, by the laws of Spacing: each number is below 10.
use Rattle.writer.proofs.Spacing.{Spaced}
use Rattle.writer.proofs.short.write_digits.Given as goal

abbrev pub invariant-loop-v : goal.invariant-loop-v
invariant-loop-v l = Spaced l.initial.out l.put l.m l.out l.at l.v-index
