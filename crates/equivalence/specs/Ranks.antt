-- The order in which reasons go before each other, and the lowest of the reasons that apply.
use Rattle.std.specs.Prelude.{ℕ, ◌≤◌, Bool, true, ◌&&◌, List, [], ◌∷◌, ◌↔◌, ◌≡◌, T, leb, Result, Err}
use mathlib.Core.List.{Memᴰ as Member}
use Rattle.equivalence.specs.Refusal.{Test, number_of}
use Rattle.equivalence.specs.declared.Refusal.{Refusal}

-- where a reason stands among all: at its number
unfoldable pub rank : Refusal → ℕ
rank r = number_of r

-- the tests rise by rank: none stands directly before one of a lower rank
unfoldable pub rises : List Test → Bool
rises [] = true
rises (t ∷ []) = true
rises (t ∷ u ∷ rest) = leb (rank t.reason) (rank u.reason) && rises (u ∷ rest)

-- r is the reason of a test of the list that applies, and no test of a lower rank applies
pub record LowestReason (tests : List Test) (r : Refusal) : Type 0 where
  pub test : Test
  pub listed : Member test tests
  pub applies : T test.applies
  pub reason : test.reason ≡ r
  pub lowest : (u : Test) → Member u tests → T u.applies → rank r ≤ rank u.reason

-- a call's answer is the refusal r if and only if r is the lowest reason among its tests
abbrev pub ReasonRight : {A : Type 0} → Result A Refusal → List Test → Type 0
ReasonRight answer tests = (r : Refusal) → (answer ≡ Err r) ↔ LowestReason tests r

-- a call that writes is refused with the lowest reason among its tests, and only so; refused, it leaves every lent byte
pub record RefusalRight {A : Type 0} (call : Result A Refusal × List ℕ) (tests : List Test) (lent : List ℕ) : Type 0 where
  pub reason : ReasonRight call.0 tests
  pub unwritten : (r : Refusal) → call.0 ≡ Err r → call.1 ≡ lent
