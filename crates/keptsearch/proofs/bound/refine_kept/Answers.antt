-- `refine_kept`: a congruence as it is, or refined.
use Rattle.keptsearch.proofs.KeptRows.{proved_refined}
use Rattle.keptsearch.proofs.bound.refine_kept.Goals as goal

pub returns-then-is_proved-clause-refined : goal.returns-then-is_proved-clause-refined
returns-then-is_proved-clause-refined c = search proved_refined
