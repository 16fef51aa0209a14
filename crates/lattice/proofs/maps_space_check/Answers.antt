-- `maps_space_check` meets its contract, by the laws of Calls: one for each return.
use Rattle.lattice.proofs.Calls.{space_unmet, space_short, space_enough}
use Rattle.lattice.proofs.maps_space_check.Goals as goal

pub returns-in_err-maps_check : goal.returns-in_err-maps_check
returns-in_err-maps_check c = search (space_unmet, c.in_err-maps_check.was)

pub returns-then-room-n : goal.returns-then-room-n
returns-then-room-n c = search (space_short, c.in_ok-maps_check.was)

pub returns : goal.returns
returns c = search (space_enough, c.in_ok-maps_check.was)
