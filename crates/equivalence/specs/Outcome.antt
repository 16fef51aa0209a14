-- Document 01's number and values for an answer, and the 32-bit number that a C caller gets.
use Rattle.std.specs.Prelude.{ℕ, ◌+◌, ◌*◌, ◌≡◌, ⊤, Result, Ok, Err}
use Rattle.equivalence.specs.Refusal.{number_of}
use Rattle.equivalence.specs.declared.Refusal.{Refusal}

-- a reason, 0 for success, with a count and two elements, each 0 where there is none
pub record Outcome : Type 0 where
  pub reason : ℕ
  pub count : ℕ
  pub first : ℕ
  pub second : ℕ

-- success with a count
unfoldable pub success : ℕ → Outcome
success k = record { reason = 0; count = k; first = 0; second = 0 }

-- a refusal carries zeros
unfoldable pub refusal : Refusal → Outcome
refusal r = record { reason = number_of r; count = 0; first = 0; second = 0 }

-- Contained, Separate, Meet, Join
unfoldable pub written_outcome : Result ⊤ Refusal → Outcome
written_outcome (Ok x) = success 0
written_outcome (Err r) = refusal r

-- reason + 256 × count + 65,536 × first element + 16,777,216 × second element
unfoldable pub packed : Outcome → ℕ
packed o = o.reason + 256 * o.count + 65536 * o.first + 16777216 * o.second

-- different arguments give different values: a promise on the outcome of an answer says what a promise on the answer says
abbrev pub Injective : {A B : Type 0} → (A → B) → Type 0
Injective {A} {B} f = (x y : A) → f x ≡ f y → x ≡ y
