-- `split_lines` meets its contract. The loop has split along the lines of the first i elements in use.
use lib.ListN.{length}
use Rattle.refinement.proofs.Walks.{Lining}
use Rattle.refinement.proofs.plane.split_lines.Given as goal

abbrev pub invariant-loop-r : goal.invariant-loop-r
invariant-loop-r l = Lining l.round.n l.round.live.now (length l.round.live.now) l.round.cells.now l.plane.base l.plane.row l.plane.stride l.r-index l.initial.m l.m l.others l.left
