-- `absorb_all`: the laws of `Closings` start, keep and end the loop.
use Prim.Native.Nat.{◌+◌}
use lib.ListN.{length}
use Rattle.equivalence.specs.Equivalence.{byte}
use Rattle.kernel.specs.InnerKernel.{names}
use Rattle.algebra.specs.Algebra.{algebra_of}
use Rattle.sweep.specs.InnerQueue.{state_of}
use Rattle.keeping.specs.InnerPrincipal.{Working}
use Rattle.keeping.proofs.principal.absorb_all.Given as goal

abbrev pub invariant-loop-merging : goal.invariant-loop-merging
invariant-loop-merging l = Working (algebra_of l.n l.arities l.cells) (byte l.initial.merging.map) l.maps l.marks (state_of l.merging) (length l.sure) (byte l.sure)

abbrev pub decreases-loop-merging : goal.decreases-loop-merging
decreases-loop-merging l = l.merging.len + names l.n (byte l.merging.map)
