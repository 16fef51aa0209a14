-- `refine_by` meets its contract. The loop has split the map so that no congruence inside it is lost.
use lib.ListN.{length}
use Prim.Native.Nat.{◌-◌}
use Rattle.algebra.specs.Algebra.{algebra_of}
use Rattle.refinement.proofs.Refinements.{Refining}
use Rattle.refinement.proofs.refine_by.Given as goal

abbrev pub invariant-loop-left : goal.invariant-loop-left
invariant-loop-left l = Refining (algebra_of l.n l.arities l.cells) l.live (length l.live) l.count l.initial.m l.m l.others l.left

abbrev pub decreases-loop-left : goal.decreases-loop-left
decreases-loop-left l = l.n - l.count
