-- `probe::probe_prefer` meets its contract.
use Rattle.probe.specs.Calls.{prefer_copy}
use Rattle.probe.proofs.Probes.{preferred_now}
use Rattle.probe.proofs.probe_prefer.Goals as goal

pub returns : goal.returns
unfolding prefer_copy
returns c = rw (c.copy_part.ensures, preferred_now _ _ _ _ c.prefer-part.ensures)
