-- `join` meets its contract, by the laws of Calls: one for each return, and `two_maps_writable` for what the tests leave.
use Rattle.lattice.specs.Calls.{join_call}
use Rattle.lattice.proofs.Calls.{two_maps_writable, two_maps_refused, two_maps_done}
use Rattle.lattice.proofs.join.Goals as goal

pub returns-in_err-maps_space_check : goal.returns-in_err-maps_space_check
unfolding join_call
returns-in_err-maps_space_check c = search (two_maps_refused, c.in_err-maps_space_check.was)

pub join_into-requires : goal.join_into-requires
join_into-requires c =
    let w = two_maps_writable _ _ _ _ c.maps_space_check.ensures c.in_ok-maps_space_check.was in
    record { n_in_bounds = w.first; n_in_bounds_2 = w.second; n_in_bounds_3 = w.room; canonical = w.names; canonical_2 = w.others }

pub returns : goal.returns
unfolding join_call
returns c = search (two_maps_done, c.in_ok-maps_space_check.was)
