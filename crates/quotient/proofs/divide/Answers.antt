-- `quotient::divide` meets its contract: by the identity the cells are copied.
use Rattle.quotient.proofs.Identity.{accepted_fits, map_long, map_canonical, identity_count, identity_room, identity_copied}
use Rattle.quotient.proofs.divide.Goals as goal

pub is_identity-requires-clause-n_in_bounds : goal.is_identity-requires-clause-n_in_bounds
is_identity-requires-clause-n_in_bounds c = search map_long

pub is_identity-requires-clause-canonical : goal.is_identity-requires-clause-canonical
is_identity-requires-clause-canonical c = search map_canonical

pub copy-requires-clause-n_in_bounds_2 : goal.copy-requires-clause-n_in_bounds_2
copy-requires-clause-n_in_bounds_2 c = search identity_room

pub overflow_cast-result : goal.overflow_cast-result
overflow_cast-result c = search accepted_fits

pub returns-then-is_identity-clause-out_after : goal.returns-then-is_identity-clause-out_after
returns-then-is_identity-clause-out_after c = search identity_copied

pub returns-then-is_identity-clause-value : goal.returns-then-is_identity-clause-value
returns-then-is_identity-clause-value c = search identity_count
