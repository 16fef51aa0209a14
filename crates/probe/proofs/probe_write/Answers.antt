-- `probe::probe_write` meets its contract.
use Rattle.probe.proofs.Texts.{text_called}
use Rattle.probe.proofs.probe_write.Goals as goal

pub returns-clause-value : goal.returns-clause-value
returns-clause-value c = (text_called _ _ _ _ _ c.write_algebra.ensures.out_after c.text_number.ensures).0

pub returns-clause-out_after : goal.returns-clause-out_after
returns-clause-out_after c = (text_called _ _ _ _ _ c.write_algebra.ensures.out_after c.text_number.ensures).1
