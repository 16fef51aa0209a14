-- `refine` meets its contract: all elements are in use.
use Prim.Native.Nat.{ℕ}
use native.Mathlib.Omega.{arith}
use lib.ListN.{length-replicate}
use Rattle.algebra.proofs.Accepted.{accepted_well_formed}
use Rattle.refinement.proofs.Refinements.{all_represented}
use Rattle.refinement.proofs.refine.Goals as goal

pub identity-requires-clause-n_in_bounds : goal.identity-requires-clause-n_in_bounds
identity-requires-clause-n_in_bounds c = omega (arith, length-replicate {A = ℕ} 64 0, (accepted_well_formed _ c.requires.accepted).most)

pub identity-requires-clause-n_bound : goal.identity-requires-clause-n_bound
identity-requires-clause-n_bound c = (accepted_well_formed _ c.requires.accepted).most

pub refine_above-requires-clause-represented : goal.refine_above-requires-clause-represented
refine_above-requires-clause-represented c = all_represented _ _ _ (omega (arith, (accepted_well_formed _ c.requires.accepted).most)) c.identity.ensures.first

pub refine_above-requires-clause-used_bound : goal.refine_above-requires-clause-used_bound
refine_above-requires-clause-used_bound c = (accepted_well_formed _ c.requires.accepted).most
