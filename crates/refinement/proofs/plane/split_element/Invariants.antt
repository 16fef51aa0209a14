-- `split_element` meets its contract. The loop has split along lines that took x and the smallest member of its block apart.
use lib.ListN.{length}
use Prim.Native.Nat.{◌-◌}
use Rattle.equivalence.specs.Equivalence.{byte}
use Rattle.kernel.specs.InnerKernel.{names}
use Rattle.refinement.proofs.Rows.{Near}
use Rattle.refinement.proofs.plane.split_element.Given as goal

abbrev pub invariant-loop-m : goal.invariant-loop-m
invariant-loop-m l = Near l.round.n l.round.live.now (length l.round.live.now) l.round.cells.now l.line.base l.line.stride l.x l.initial.m l.m

abbrev pub decreases-loop-m : goal.decreases-loop-m
decreases-loop-m l = l.round.n - names l.round.n (byte l.m)
