-- `settle_row`: the pairs of the row before y are settled.
use Rattle.equivalence.specs.Equivalence.{byte}
use Rattle.algebra.specs.Algebra.{algebra_of}
use Rattle.separation.specs.InnerSearch.{StandingIn, Marks}
use Rattle.bounding.specs.InnerBounds.{BoundLent}
use Rattle.separation.proofs.search.settle_row.Given as goal

abbrev pub invariant-loop-y : goal.invariant-loop-y
invariant-loop-y l = StandingIn l.n l.arities l.cells l.standing l.marked l.x l.y × Marks (algebra_of l.n l.arities l.cells) l.refused l.marked (byte l.standing.map) × BoundLent (algebra_of l.n l.arities l.cells) l.up l.marked (byte l.standing.map)
