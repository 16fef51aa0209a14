-- `meet_if_needed`: the map is dropped, or met.
use Rattle.pruning.proofs.Pruning.{turn_drop, turn_keep}
use Rattle.pruning.proofs.meet_if_needed.Goals as goal

pub returns-then-meets_in_identity : goal.returns-then-meets_in_identity
returns-then-meets_in_identity c = search turn_drop

pub returns : goal.returns
returns c = search turn_keep
