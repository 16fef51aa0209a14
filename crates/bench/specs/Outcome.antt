-- Document 01's number and values for each case of the bench's answer.
use Rattle.std.specs.Prelude.{⊤, Result, Ok, Err}
use Rattle.equivalence.specs.Outcome.{Outcome, success, refusal}
use Rattle.equivalence.specs.declared.Refusal.{Refusal}

-- every call of the bench, and the conversions
unfoldable pub answer_outcome : Result ⊤ Refusal → Outcome
answer_outcome (Ok x) = success 0
answer_outcome (Err r) = refusal r
