-- `gather`: the laws of `Gathering` start, keep, hand over and end the loop.
use Prim.Native.Nat.{◌*◌, ◌-◌, ◌≤◌}
use lib.ListN.{length}
use Rattle.algebra.specs.Algebra.{algebra_of}
use Rattle.gathering.specs.InnerGathering.{Gathering}
use Rattle.gathering.proofs.gather.gather.Given as goal

abbrev pub invariant-loop-met : goal.invariant-loop-met
invariant-loop-met l =
    record {
      room : 4096 ≤ length l.table;
      tried : l.trials ≤ 4096 * l.count;
      gathering : Gathering (algebra_of l.n l.arities l.cells) l.initial.maps l.count l.met l.maps;
    }

abbrev pub decreases-loop-met : goal.decreases-loop-met
decreases-loop-met l = l.n - l.count
