-- `join_kept`: the laws of `Closings` start, keep and end the loop.
use Rattle.equivalence.specs.Equivalence.{byte}
use Rattle.sweep.specs.InnerQueue.{state_of}
use Rattle.keeping.specs.InnerPrincipal.{JoinedTo}
use Rattle.keeping.proofs.join.join_kept.Given as goal

abbrev pub invariant-loop-z : goal.invariant-loop-z
invariant-loop-z l = JoinedTo l.n l.z (byte l.kept) (state_of l.initial.merging) (state_of l.merging)
