-- `unite_all` meets its contract. The loop has joined the elements below x with their names in b (`Joined`), by the laws of Joining.
use Rattle.equivalence.specs.Equivalence.{byte}
use Rattle.kernel.specs.InnerKernel.{Joined}
use Rattle.lattice.proofs.joins.unite_all.Given as goal

abbrev pub invariant-loop-x : goal.invariant-loop-x
invariant-loop-x l = Joined l.n l.x (byte l.fn.b) (byte l.initial.m) (byte l.m)
