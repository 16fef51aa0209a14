-- A call over an algebra: its six tests and those behind them, where one applies and where it is passed over; what the call answers then, and what it leaves of the lent bytes.
use Prim.Native.Nat.{ℕ}
use mathlib.Core.List.{List, [], ◌∷◌, ◌++◌}
use mathlib.Core.Path.{◌≡◌, sym, ◌∙◌}
use Rattle.equivalence.specs.Lent.{written}
use Rattle.equivalence.specs.Refusal.{Test, lowest, serve}
use Rattle.equivalence.proofs.Refusals.{lowest_none, lowest_append, lowest_failed, passed_append, serve_passed, serve_failed}
use Rattle.equivalence.specs.declared.Refusal.{Refusal}
use Rattle.std.specs.Prelude.{⊤, Result, Ok, Err}
use Rattle.algebra.specs.Accepted.{algebra_tests, Accepted}
use Rattle.algebra.specs.Algebra.{Algebra}

module _ (a : Algebra) (rest : List Test) where
  -- a reason of the algebra's is the call's
  pub algebra_declines : {check : Result ⊤ Refusal} (r : Refusal) → check ≡ Err r → check ≡ lowest (algebra_tests a) → Err r ≡ lowest (algebra_tests a ++ rest)
  algebra_declines r known e = sym (lowest_failed (algebra_tests a) rest r (sym e ∙ known))

  -- an accepted algebra's tests are passed over
  pub algebra_passes : {check found : Result ⊤ Refusal} → check ≡ Ok tt → check ≡ lowest (algebra_tests a) → found ≡ lowest rest → found ≡ lowest (algebra_tests a ++ rest)
  algebra_passes known e f = f ∙ sym (lowest_append (algebra_tests a) rest (sym e ∙ known))

  -- where all pass, the algebra is accepted and the rest passes
  pub of_checked : Ok tt ≡ lowest (algebra_tests a ++ rest) → Accepted a × (lowest rest ≡ Ok tt)
  unfolding Accepted
  of_checked e = passed_append (algebra_tests a) rest (sym e)

-- where the algebra's tests found nothing, it is accepted
pub passed_accepted : (a : Algebra) {check : Result ⊤ Refusal} → check ≡ Ok tt → check ≡ lowest (algebra_tests a) → Accepted a
unfolding Accepted
passed_accepted a known e = sym e ∙ known

-- a test that applies is what is found; one that is passed over leaves it to the rest
pub test_declines : (t : Test) (rest : List Test) (r : Refusal) → lowest (t ∷ rest) ≡ Err r → Err r ≡ lowest (t ∷ rest)
test_declines t rest r e = sym e

pub test_passes : (t : Test) (rest : List Test) {found : Result ⊤ Refusal} → lowest (t ∷ rest) ≡ lowest rest → found ≡ lowest rest → found ≡ lowest (t ∷ rest)
test_passes t rest e f = f ∙ sym e

pub all_pass : Ok tt ≡ lowest []
all_pass = sym lowest_none

-- where a check found nothing, all pass
pub tests_passed : {check : Result ⊤ Refusal} (tests : List Test) → check ≡ Ok tt → check ≡ lowest tests → Ok tt ≡ lowest tests
tests_passed tests known e = sym known ∙ e

module _ {A : Type 0} (tests : List Test) (answer : A) (new lent : List ℕ) {check : Result ⊤ Refusal} (e : check ≡ lowest tests) where
  -- a test declines: nothing is written
  pub declined : (r : Refusal) → check ≡ Err r → (Err r, lent) ≡ serve tests answer new lent
  declined r known = sym (serve_failed tests answer new lent r (sym e ∙ known))

  -- all pass, and the new bytes are written
  pub granted : check ≡ Ok tt → {given : A} {after : List ℕ} → given ≡ answer → after ≡ written new lent → (Ok given, after) ≡ serve tests answer new lent
  granted known f g = rw (f, g) (sym (serve_passed tests answer new lent (sym e ∙ known)))
