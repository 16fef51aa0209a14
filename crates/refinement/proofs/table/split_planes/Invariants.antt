-- `split_planes` meets its contract. The loop has split along the planes of the first i elements in use.
use lib.ListN.{length}
use Rattle.refinement.proofs.Walks.{Planing}
use Rattle.refinement.proofs.table.split_planes.Given as goal

abbrev pub invariant-loop-r : goal.invariant-loop-r
invariant-loop-r l = Planing l.round.n l.round.live.now (length l.round.live.now) l.round.cells.now l.solid.base l.solid.named l.solid.inner l.solid.layer l.solid.row l.solid.stride l.r-index l.initial.m l.m l.others l.left
