-- Each map from the services' answers to outcomes is injective.
use Prim.Native.Nat.{ℕ}
use mathlib.Core.Path.{◌≡◌, refl, sym, ap, ◌∙◌}
use native.Mathlib.Omega.{arith}
use Rattle.equivalence.specs.Outcome.{Outcome, success, refusal, Injective}
use Rattle.equivalence.proofs.Outcomes.{number_not_11, refusal_injective, success_apart, success_injective}
use Rattle.equivalence.specs.declared.Element.{Element}
use Rattle.equivalence.specs.declared.Refusal.{Refusal}
use Rattle.congruence.specs.Calls.{element}
use Rattle.congruence.specs.Outcome.{generated_outcome, divided_outcome, decomposed_outcome, certified_outcome}
use Rattle.std.specs.Prelude.{true, false, Ok, Err}
use Rattle.decomposition.specs.declared.Decomposed.TheVariants.{Factors, Irreducible}

pub generated_outcome_injective : Injective generated_outcome
unfolding generated_outcome
generated_outcome_injective (Ok j) (Ok k) e = ap Ok (success_injective j k e)
generated_outcome_injective (Ok k) (Err r) e = absurd (success_apart k r e)
generated_outcome_injective (Err r) (Ok k) e = absurd (success_apart k r (sym e))
generated_outcome_injective (Err r) (Err s) e = ap Err (refusal_injective r s e)

pub divided_outcome_injective : Injective divided_outcome
unfolding divided_outcome
divided_outcome_injective (Ok j) (Ok k) e = ap Ok (success_injective j k e)
divided_outcome_injective (Ok k) (Err r) e = absurd (success_apart k r e)
divided_outcome_injective (Err r) (Ok k) e = absurd (success_apart k r (sym e))
divided_outcome_injective (Err r) (Err s) e = ap Err (refusal_injective r s e)

pub certified_outcome_injective : Injective certified_outcome
unfolding certified_outcome
certified_outcome_injective (Ok true) (Ok true) e = refl
certified_outcome_injective (Ok true) (Ok false) e = let z : ◌≡◌ {A = ℕ} 1 0 = success_injective 1 0 e in absurd (omega arith)
certified_outcome_injective (Ok true) (Err r) e = absurd (success_apart 1 r e)
certified_outcome_injective (Ok false) (Ok true) e = let z : ◌≡◌ {A = ℕ} 0 1 = success_injective 0 1 e in absurd (omega arith)
certified_outcome_injective (Ok false) (Ok false) e = refl
certified_outcome_injective (Ok false) (Err r) e = absurd (success_apart 0 r e)
certified_outcome_injective (Err r) (Ok true) e = absurd (success_apart 1 r (sym e))
certified_outcome_injective (Err r) (Ok false) e = absurd (success_apart 0 r (sym e))
certified_outcome_injective (Err r) (Err s) e = ap Err (refusal_injective r s e)

-- 11 with its pair is no success and no refusal
eleven_not_success : (x y : Element) (k : ℕ) → ¬ (decomposed_outcome (Ok (Irreducible x y)) ≡ success k)
unfolding decomposed_outcome success
eleven_not_success x y k e = let z : ◌≡◌ {A = ℕ} 11 0 = ap (λ (o : Outcome). o.reason) e in omega arith

eleven_not_refusal : (x y : Element) (r : Refusal) → ¬ (decomposed_outcome (Ok (Irreducible x y)) ≡ refusal r)
unfolding decomposed_outcome refusal
eleven_not_refusal x y r e = number_not_11 r (sym (ap (λ (o : Outcome). o.reason) e))

pub decomposed_outcome_injective : Injective decomposed_outcome
unfolding decomposed_outcome
decomposed_outcome_injective (Ok (Factors j)) (Ok (Factors k)) e = ap (λ (i : ℕ). Ok (Factors i)) (success_injective j k e)
decomposed_outcome_injective (Ok (Factors k)) (Ok (Irreducible x y)) e = absurd (eleven_not_success x y k (sym e))
decomposed_outcome_injective (Ok (Factors k)) (Err r) e = absurd (success_apart k r e)
decomposed_outcome_injective (Ok (Irreducible x y)) (Ok (Factors k)) e = absurd (eleven_not_success x y k e)
decomposed_outcome_injective (Ok (Irreducible x y)) (Ok (Irreducible v w)) e =
    ap (λ (z : ℕ). Ok (Irreducible (element z) (element y.0))) (ap (λ (o : Outcome). o.first) e)
    ∙ ap (λ (z : ℕ). Ok (Irreducible (element v.0) (element z))) (ap (λ (o : Outcome). o.second) e)
decomposed_outcome_injective (Ok (Irreducible x y)) (Err r) e = absurd (eleven_not_refusal x y r e)
decomposed_outcome_injective (Err r) (Ok (Factors k)) e = absurd (success_apart k r (sym e))
decomposed_outcome_injective (Err r) (Ok (Irreducible x y)) e = absurd (eleven_not_refusal x y r (sym e))
decomposed_outcome_injective (Err r) (Err s) e = ap Err (refusal_injective r s e)
