-- `probe::probe_meet` meets its contract: the number of what `meet` answers, and the bytes that it leaves.
use Rattle.equivalence.specs.Outcome.{written_outcome}
use Rattle.probe.proofs.Probes.{call_number}
use Rattle.probe.proofs.probe_meet.Goals as goal

pub returns-clause-value : goal.returns-clause-value
returns-clause-value c = (call_number written_outcome _ c.meet.ensures c.written_number.ensures).0

pub returns-clause-out_after : goal.returns-clause-out_after
returns-clause-out_after c = (call_number written_outcome _ c.meet.ensures c.written_number.ensures).1
