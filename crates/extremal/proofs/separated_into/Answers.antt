-- `separated_into`: the earliest found is the earliest congruence, by the laws of Bridges.
use Rattle.extremal.proofs.Bridges.{separated_written}
use Rattle.extremal.proofs.separated_into.Goals as goal

pub returns-clause-out_after : goal.returns-clause-out_after
returns-clause-out_after c = search separated_written
