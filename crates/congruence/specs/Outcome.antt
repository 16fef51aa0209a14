-- Document 01's number and values for each case of the services' answers.
use Rattle.std.specs.Prelude.{ℕ, Bool, true, false, Result, Ok, Err}
use Rattle.equivalence.specs.Outcome.{Outcome, success, refusal}
use Rattle.equivalence.specs.declared.Refusal.{Refusal}
use Rattle.decomposition.specs.declared.Decomposed.{Decomposed}
use Rattle.decomposition.specs.declared.Decomposed.TheVariants.{Factors, Irreducible}

-- Generate: the merges
unfoldable pub generated_outcome : Result ℕ Refusal → Outcome
generated_outcome (Ok k) = success k
generated_outcome (Err r) = refusal r

-- Quotient: the blocks
unfoldable pub divided_outcome : Result ℕ Refusal → Outcome
divided_outcome (Ok b) = success b
divided_outcome (Err r) = refusal r

-- Decompose: the factors, or 11 with its pair
unfoldable pub decomposed_outcome : Result Decomposed Refusal → Outcome
decomposed_outcome (Ok (Factors k)) = success k
decomposed_outcome (Ok (Irreducible x y)) = record { reason = 11; count = 0; first = x.0; second = y.0 }
decomposed_outcome (Err r) = refusal r

-- Certify: 1 for yes, 0 for no
unfoldable pub certified_outcome : Result Bool Refusal → Outcome
certified_outcome (Ok true) = success 1
certified_outcome (Ok false) = success 0
certified_outcome (Err r) = refusal r
