-- `image::read_sheet_v1` meets its contract.
use Rattle.image.specs.Image.{sheet_v1_in}
use Rattle.image.proofs.read_sheet_v1.Goals as goal

pub returns : goal.returns
unfolding sheet_v1_in
returns c = rw c.read_map_of-map.ensures
