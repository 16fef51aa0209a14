-- `split_along` meets its contract. The loop has split along the line, and it breaks at the element at k.
use lib.ListN.{length}
use Prim.Native.Nat.{◌-◌}
use Rattle.refinement.proofs.Splits.{Along}
use Rattle.refinement.proofs.line.split_along.Given as goal

abbrev pub invariant-loop-line : goal.invariant-loop-line
invariant-loop-line l = Along l.round.n l.round.cells.now l.line.base l.line.stride l.list (length l.list) l.start l.k l.initial.m l.m

abbrev pub decreases-loop-line : goal.decreases-loop-line
decreases-loop-line l = length l.list - l.k
