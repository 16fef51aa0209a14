-- `extended_into`: the closed map is the least congruence above, by the laws of Bridges.
use Rattle.extremal.proofs.Bridges.{map_extended}
use Rattle.extremal.proofs.extended_into.Goals as goal

pub returns : goal.returns
returns c = search map_extended
