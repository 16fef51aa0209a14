-- `imagepart::read_point` meets its contract.
use Rattle.imagepart.specs.Parts.{place_in}
use Rattle.imagepart.proofs.read_point.Goals as goal

pub returns : goal.returns
unfolding place_in
returns c = rw (c.read_part-name.ensures, c.read_part-map.ensures)
