-- `separated_kept_into`: the same, by kept pairs.
use Rattle.extremal.proofs.Bridges.{separated_written}
use Rattle.extremal.proofs.separated_kept_into.Goals as goal

pub returns-clause-out_after : goal.returns-clause-out_after
returns-clause-out_after c = search separated_written
