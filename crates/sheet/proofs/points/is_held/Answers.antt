-- `sheet::points::is_held` meets its contract.
use Rattle.sheet.specs.Points.{is_held, place_named}
use Rattle.sheet.proofs.Places.{first_ltb}
use Rattle.sheet.proofs.points.is_held.Goals as goal

pub returns : goal.returns
unfolding is_held place_named
returns c = first_ltb _ _ _ _ c.place_named.ensures.0
