-- `join_row`: what is known is joined, then the pairs before y are tried.
use Rattle.algebra.specs.Algebra.{algebra_of}
use Rattle.keeping.specs.InnerKeeping.{Keeping}
use Rattle.keptsearch.specs.InnerRows.{RowLent}
use Rattle.keptsearch.proofs.row.join_row.Given as goal

abbrev pub invariant-loop-y : goal.invariant-loop-y
invariant-loop-y l = Keeping (algebra_of l.n l.arities l.cells) l.maps l.marks × RowLent l.n l.arities l.cells l.m l.all l.marked l.x l.y
