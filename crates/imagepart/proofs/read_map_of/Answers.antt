-- `imagepart::read_map_of` meets its contract.
use Rattle.imagepart.specs.Parts.{map_in}
use Rattle.imagepart.proofs.read_map_of.Goals as goal

pub returns : goal.returns
unfolding map_in
returns c = c.read_part.ensures
