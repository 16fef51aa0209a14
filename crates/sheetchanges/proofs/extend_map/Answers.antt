-- `sheetchanges::extend_map` meets its contract.
use native.Mathlib.Omega.{arith}
use Rattle.algebra.proofs.Accepted.{accepted_well_formed}
use Rattle.sheetchanges.proofs.Growing.{front_canonical, map_grown}
use Rattle.sheetchanges.proofs.extend_map.Goals as goal

pub extended_into-requires : goal.extended_into-requires
extended_into-requires c = let p = c.requires in
    let n = (accepted_well_formed _ p.accepted).most in
    record { accepted = p.accepted; n_in_bounds = omega (arith, n); canonical = front_canonical _ _ p.t; x_lt_n = p.x_lt_n; y_lt_n = p.y_lt_n }

pub returns : goal.returns
returns c = map_grown _ c.requires.accepted _ _ _ _ _ c.extended_into.ensures
