-- `step_at`: a step with the two cells.
use Rattle.sweep.proofs.Crossings.{joins_step}
use Rattle.sweep.proofs.Pass.step_at.Goals as goal

pub returns : goal.returns
returns c = search joins_step
