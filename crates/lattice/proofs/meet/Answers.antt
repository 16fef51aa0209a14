-- `meet` meets its contract, by the laws of Calls: one for each return, and `two_maps_writable` for what the tests leave.
use Rattle.lattice.specs.Calls.{meet_call}
use Rattle.lattice.proofs.Calls.{two_maps_writable, two_maps_refused, two_maps_done}
use Rattle.lattice.proofs.meet.Goals as goal

pub returns-in_err-maps_space_check : goal.returns-in_err-maps_space_check
unfolding meet_call
returns-in_err-maps_space_check c = search (two_maps_refused, c.in_err-maps_space_check.was)

pub meet_into-requires : goal.meet_into-requires
meet_into-requires c =
    let w = two_maps_writable _ _ _ _ c.maps_space_check.ensures c.in_ok-maps_space_check.was in
    record { n_bound = w.small; n_in_bounds = w.first; n_in_bounds_2 = w.second; out_room = w.room; canonical = w.names; canonical_2 = w.others }

pub returns : goal.returns
unfolding meet_call
returns c = search (two_maps_done, c.in_ok-maps_space_check.was)
