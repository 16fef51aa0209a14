-- `image::read_sheet_v3` meets its contract.
use Rattle.image.specs.Image.{sheet_v3_in}
use Rattle.image.proofs.read_sheet_v3.Goals as goal

pub returns : goal.returns
unfolding sheet_v3_in
returns c = rw (c.read_map_of-map.ensures, c.read_little-count.ensures.0, c.read_places-points.ensures)
