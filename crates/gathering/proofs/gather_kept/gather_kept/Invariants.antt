-- `gather_kept`: the laws of `Gathering` keep and end the loop.
use Prim.Native.Nat.{◌-◌, ◌≤◌}
use lib.ListN.{length}
use Rattle.algebra.specs.Algebra.{algebra_of}
use Rattle.keeping.specs.InnerKeeping.{Keeping}
use Rattle.gathering.specs.InnerGathering.{Gathering}
use Rattle.gathering.proofs.gather_kept.gather_kept.Given as goal

abbrev pub invariant-loop-kept : goal.invariant-loop-kept
invariant-loop-kept l =
    record {
      room : 4096 ≤ length l.table;
      keeping : Keeping (algebra_of l.n l.arities l.cells) l.kept l.marks;
      gathering : Gathering (algebra_of l.n l.arities l.cells) l.initial.maps l.count l.met l.maps;
    }

abbrev pub decreases-loop-kept : goal.decreases-loop-kept
decreases-loop-kept l = l.n - l.count
