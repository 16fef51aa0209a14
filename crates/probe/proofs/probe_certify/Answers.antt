-- `probe::probe_certify` meets its contract: the number of what `certify` answers.
use mathlib.Core.Path.{ap, ◌∙◌}
use Rattle.equivalence.specs.Outcome.{packed}
use Rattle.congruence.specs.Outcome.{certified_outcome}
use Rattle.equivalence.specs.declared.Refusal.{Refusal}
use Rattle.std.specs.Prelude.{Bool, Result}
use Rattle.probe.proofs.probe_certify.Goals as goal

pub returns : goal.returns
returns c = c.certified_number.ensures ∙ ap (λ (a : Result Bool Refusal). packed (certified_outcome a)) c.certify.ensures
