-- `factors`: nothing is gathered for n = 1; else what was gathered is a list of maps, and those of it that are needed are the factors.
use native.Mathlib.Omega.{arith}
use Rattle.algebra.proofs.Accepted.{accepted_well_formed}
use Rattle.decomposition.proofs.Factoring.{meet_room, gathered_room, gathered_listed, gathered_count, found_one, found_joined, found_listed}
use Rattle.decomposition.proofs.factors.Goals as goal

pub returns-then-n-lt2 : goal.returns-then-n-lt2
returns-then-n-lt2 c = let w = accepted_well_formed _ c.requires in found_one _ c.requires (omega (arith, w.some)) c.args.out.now

pub gather-requires-clause-n_in_bounds : goal.gather-requires-clause-n_in_bounds
gather-requires-clause-n_in_bounds c = meet_room _ c.requires

pub gather-requires-clause-n_in_bounds_2 : goal.gather-requires-clause-n_in_bounds_2
gather-requires-clause-n_in_bounds_2 c = gathered_room _ c.requires

pub list_needed-requires-clause-maps_listed : goal.list_needed-requires-clause-maps_listed
list_needed-requires-clause-maps_listed c = gathered_listed _ c.requires _ (gathered_room _ c.requires) c.in-All.is _ c.gather.ensures

pub list_needed-requires-clause-count_bound : goal.list_needed-requires-clause-count_bound
list_needed-requires-clause-count_bound c = gathered_count _ c.requires _ (gathered_room _ c.requires) c.in-All.is _ c.gather.ensures

pub list_needed-requires-clause-n_in_bounds : goal.list_needed-requires-clause-n_in_bounds
list_needed-requires-clause-n_in_bounds c = omega (arith, meet_room _ c.requires)

pub returns-in-Joined : goal.returns-in-Joined
returns-in-Joined c = found_joined _ c.requires _ c.in-Joined.is _ _ c.gather.ensures

pub returns-in-All : goal.returns-in-All
returns-in-All c = found_listed _ c.requires _ (gathered_room _ c.requires) c.in-All.is _ c.gather.ensures _ c.list_needed.ensures
