-- `split_all` meets its contract. The loop has walked over the tables below j, and the next begins at `base`.
use lib.ListN.{length}
use Rattle.algebra.specs.Algebra.{algebra_of}
use Rattle.refinement.proofs.Refinements.{Tabling}
use Rattle.refinement.proofs.table.split_all.Given as goal

abbrev pub invariant-loop-s : goal.invariant-loop-s
invariant-loop-s l = Tabling (algebra_of l.round.n l.arities l.round.cells.now) l.round.live.now (length l.round.live.now) l.s-index l.base l.initial.m l.m l.others l.left
