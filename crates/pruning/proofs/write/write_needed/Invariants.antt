-- `write_needed`: the laws of `NeededWritten` start, keep and end the loop.
use Rattle.pruning.proofs.Writing.{NeededWritten}
use Rattle.pruning.proofs.write.write_needed.Given as goal

abbrev pub invariant-loop-i : goal.invariant-loop-i
invariant-loop-i l = NeededWritten l.n l.maps l.kept l.needed l.initial.out l.i l.out
