-- `split_planes` meets its contract. The loop has split along the planes of the first i elements in use.
use Rattle.refinement.proofs.Walks.{planing_done, planing_at, planing_more}
use Rattle.refinement.proofs.Fronts.{plane_back}
use Rattle.refinement.proofs.table.split_planes.Goals as goal

pub split_plane-left-requires-clause-plane_at : goal.split_plane-left-requires-clause-plane_at
split_plane-left-requires-clause-plane_at c = search planing_at

pub loop-r-preserved : goal.loop-r-preserved
loop-r-preserved c = planing_more c.loop-r.invariant c.loop-r-test.true (plane_back _ c.split_plane-left.ensures)

pub returns : goal.returns
returns c = search planing_done
