-- `meet_into` meets its contract: a copy of one map, met with the other, is the meet (`copied_met` of Meeting).
use Rattle.lattice.proofs.Meeting.{copied_met}
use Rattle.lattice.proofs.meets.meet_into.Goals as goal

pub returns : goal.returns
returns c = search copied_met
