-- `meet_next`: the map is the identity, or is met.
use Rattle.gathering.proofs.Gathering.{meetable_new, meetable_both, met_stop, met_more}
use Rattle.gathering.proofs.step.meet_next.Goals as goal

pub is_identity-requires : goal.is_identity-requires
is_identity-requires c = let w = meetable_new c.requires in record { n_in_bounds = w.0; canonical = w.1 }

pub returns-then-is_identity : goal.returns-then-is_identity
returns-then-is_identity c = search met_stop

pub meet_with-requires : goal.meet_with-requires
meet_with-requires c =
    let w = meetable_both c.requires in
    record { n_bound = w.0; n_in_bounds = w.1.0; in_bounds = w.1.1.0; m_room = w.1.1.1.0; canonical = w.1.1.1.1.0; canonical_2 = w.1.1.1.1.1 }

pub returns : goal.returns
returns c = search met_more
