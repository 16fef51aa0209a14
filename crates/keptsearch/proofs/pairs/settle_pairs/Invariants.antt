-- `settle_pairs`: the pairs of the row before y are settled.
use Rattle.algebra.specs.Algebra.{algebra_of}
use Rattle.keeping.specs.InnerKeeping.{Keeping}
use Rattle.keptsearch.specs.InnerRows.{KeptStanding}
use Rattle.keptsearch.proofs.pairs.settle_pairs.Given as goal

abbrev pub invariant-loop-y : goal.invariant-loop-y
invariant-loop-y l = Keeping (algebra_of l.n l.arities l.cells) l.maps l.marks × KeptStanding l.n l.arities l.cells l.m l.marked l.x l.y
