-- `imagecalls::answer_number` meets its contract.
use Rattle.bench.specs.Outcome.{answer_outcome}
use Rattle.imagecalls.proofs.answer_number.Goals as goal

pub returns-in-Ok : goal.returns-in-Ok
unfolding answer_outcome
returns-in-Ok c = rw c.in-Ok.is c.succeeded.ensures

pub returns-in-Err : goal.returns-in-Err
unfolding answer_outcome
returns-in-Err c = rw c.in-Err.is c.refused.ensures
