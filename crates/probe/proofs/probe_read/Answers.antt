-- `probe::probe_read` meets its contract.
use Rattle.probe.proofs.Texts.{head_other, head_called}
use Rattle.probe.proofs.probe_read.Goals as goal

pub returns-then-head-ne-HEAD_LENGTH : goal.returns-then-head-ne-HEAD_LENGTH
returns-then-head-ne-HEAD_LENGTH c = search head_other

pub returns : goal.returns
returns c = search head_called
