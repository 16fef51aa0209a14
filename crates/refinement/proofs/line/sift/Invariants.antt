-- `sift` meets its contract. The loop has looked at the first i elements.
use Rattle.equivalence.specs.Equivalence.{byte}
use Rattle.refinement.proofs.Sifting.{Sifting}
use Rattle.refinement.proofs.line.sift.Given as goal

abbrev pub invariant-loop-i : goal.invariant-loop-i
invariant-loop-i l = Sifting (byte l.m) l.initial.list l.list l.i l.kept
