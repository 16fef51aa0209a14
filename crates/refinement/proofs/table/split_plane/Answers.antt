-- `split_plane` meets its contract: an element that is no smallest member is not asked for.
use Rattle.refinement.proofs.Walks.{plane_rows}
use Rattle.refinement.proofs.table.split_plane.Goals as goal

pub returns : goal.returns
returns c = search plane_rows
