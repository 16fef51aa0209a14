-- The packed number of an answer, and the lent bytes, from the equation of the call.
use Prim.Native.Nat.{ℕ}
use mathlib.Core.List.{List}
use mathlib.Core.Path.{◌≡◌, ap, ◌∙◌}
use Rattle.equivalence.specs.Outcome.{Outcome, packed}

pub packed_call : {A : Type 0} (outcome : A → Outcome) {answer : A} {after : List ℕ} {call : A × List ℕ} {number : ℕ} → (answer, after) ≡ call
    → number ≡ packed (outcome answer) → (number ≡ packed (outcome call.0)) × (after ≡ call.1)
packed_call {A} outcome e f = (f ∙ ap (λ (r : A × List ℕ). packed (outcome r.0)) e, ap (λ (r : A × List ℕ). r.1) e)
