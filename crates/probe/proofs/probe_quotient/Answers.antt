-- `probe::probe_quotient` meets its contract: the number of what `quotient` answers, and the bytes that it leaves.
use Rattle.congruence.specs.Outcome.{divided_outcome}
use Rattle.probe.proofs.Probes.{call_number}
use Rattle.probe.proofs.probe_quotient.Goals as goal

pub returns-clause-value : goal.returns-clause-value
returns-clause-value c = (call_number divided_outcome _ c.quotient.ensures c.divided_number.ensures).0

pub returns-clause-out_after : goal.returns-clause-out_after
returns-clause-out_after c = (call_number divided_outcome _ c.quotient.ensures c.divided_number.ensures).1
