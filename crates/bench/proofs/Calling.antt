-- A call of the bench by its tests: done, with the new bench, or refused, with the other; 13 applies, or does not.
use Prim.Native.Nat.{ℕ, ◌≤◌, ◌<◌}
use mathlib.Core.List.{List, [], ◌∷◌, ◌++◌}
use mathlib.Core.Logic.{◌⊎◌, inl, inr}
use mathlib.Core.Path.{◌≡◌, refl, ap, ◌∙◌}
use native.Mathlib.Omega.{arith}
use lib.Dec.{ltb→lt, lt→ltb}
use Rattle.std.specs.Prelude.{⊤, Result, Ok, Err, IfOk, MatchResult}
use Rattle.equivalence.specs.Refusal.{Test, lowest, answered}
use Rattle.equivalence.proofs.Refusals.{ok_never, err_never, lowest_none, lowest_next, lowest_here, lowest_append}
use Rattle.equivalence.specs.declared.Refusal.{Refusal}
use Rattle.equivalence.specs.declared.Refusal.TheVariants.{Tally}
use Rattle.bench.specs.Calls.{tally_test, benched}
use Rattle.bench.specs.declared.Benched.{Benched}

-- what holds where tests pass
pub if_passed : (P : ⊤ → Type 0) (check : Result ⊤ Refusal) → (check ≡ Ok tt → P tt) → IfOk check P
if_passed P (Ok x) h = h refl
if_passed P (Err r) h = tt

module _ {B : Type 0} where
  abbrev pub done_with : B → Benched B
  done_with b = record { answer = Ok tt; bench = b }

  abbrev pub refused : Refusal → B → Benched B
  refused r b = record { answer = Err r; bench = b }

  abbrev benched_of : Result ⊤ Refusal → B → Benched B
  benched_of a b = record { answer = a; bench = b }

  same_benched : (g h : Benched B) → g.answer ≡ h.answer → g.bench ≡ h.bench → g ≡ h
  same_benched g h e f =
      ap (λ (a : Result ⊤ Refusal). benched_of a g.bench) e ∙ ap (benched_of h.answer) f

  module _ (new other : B) where
    -- done, with the new bench; or refused, with the other
    abbrev pub given : Result ⊤ Refusal → Benched B
    given c = answered (λ r. refused r other) c (done_with new)

    pub given_cases : (c : Result ⊤ Refusal) → ((c ≡ Ok tt) × (given c ≡ done_with new)) ⊎ ((r : Refusal) × (given c ≡ refused r other))
    unfolding answered
    given_cases (Ok x) = inl (refl, refl)
    given_cases (Err r) = inr (r, refl)

    pub given_answer : (c : Result ⊤ Refusal) → (given c).answer ≡ answered Err c (Ok tt)
    unfolding answered
    given_answer (Ok x) = refl
    given_answer (Err r) = refl

    pub given_done : (c : Result ⊤ Refusal) → (given c).answer ≡ Ok tt → (given c).bench ≡ new
    unfolding answered
    given_done (Ok x) e = refl
    given_done (Err r) e = absurd (err_never e)

    pub given_refused : (c : Result ⊤ Refusal) (r : Refusal) → (given c).answer ≡ Err r → (given c).bench ≡ other
    unfolding answered
    given_refused (Ok x) r e = absurd (ok_never e)
    given_refused (Err s) r e = refl

    given_by : (c : Result ⊤ Refusal) (g : Benched B) (P : ⊤ → Type 0) → g.answer ≡ c → MatchResult c P (λ r. g.bench ≡ other) → (P tt → g.bench ≡ new) → g ≡ given c
    unfolding answered
    given_by (Ok x) g P e m h = same_benched _ _ e (h m)
    given_by (Err r) g P e m h = same_benched _ _ e m

module _ {B : Type 0} (tests : List Test) (new other : B) where
  pub benched_passed : lowest tests ≡ Ok tt → benched tests new other ≡ done_with new
  unfolding benched answered
  benched_passed e = rw e

  pub benched_failed : (r : Refusal) → lowest tests ≡ Err r → benched tests new other ≡ refused r other
  unfolding benched answered
  benched_failed r e = rw e

  -- one or the other
  pub benched_cases : ((lowest tests ≡ Ok tt) × (benched tests new other ≡ done_with new)) ⊎ ((r : Refusal) × (benched tests new other ≡ refused r other))
  unfolding benched
  benched_cases = given_cases new other (lowest tests)

  -- and what the tests leave
  pub call_cases : {Left : Type 0} → (lowest tests ≡ Ok tt → Left) → (Left × (benched tests new other ≡ done_with new)) ⊎ ((r : Refusal) × (benched tests new other ≡ refused r other))
  call_cases leaves =
      elim benched_cases [
        | inl p ↦ inl (leaves p.0, p.1)
        | inr p ↦ inr p
      ]

  -- the answer is that of the tests, whatever the benches
  pub benched_answer : (benched tests new other).answer ≡ answered Err (lowest tests) (Ok tt)
  unfolding benched
  benched_answer = given_answer new other (lowest tests)

  -- and the bench is known by the answer
  pub benched_done : (benched tests new other).answer ≡ Ok tt → (benched tests new other).bench ≡ new
  unfolding benched
  benched_done e = given_done new other (lowest tests) e

  pub benched_refused : (r : Refusal) → (benched tests new other).answer ≡ Err r → (benched tests new other).bench ≡ other
  unfolding benched
  benched_refused r e = given_refused new other (lowest tests) r e

  -- as `Benched::by` makes it, by what the tests found
  pub benched_by : {check : Result ⊤ Refusal} → check ≡ lowest tests → (g : Benched B) (P : ⊤ → Type 0) → g.answer ≡ check → MatchResult check P (λ r. g.bench ≡ other) → (P tt → g.bench ≡ new)
      → g ≡ benched tests new other
  unfolding benched
  benched_by {check} s g P e m h = given_by new other check g P e m h ∙ rw s

-- tests that pass are passed over
pub benched_append : {B : Type 0} (ts rest : List Test) (new other : B) → lowest ts ≡ Ok tt → benched (ts ++ rest) new other ≡ benched rest new other
unfolding benched
benched_append ts rest new other e = rw (lowest_append ts rest e)

-- 13 applies, or does not
module _ {B : Type 0} (tally : ℕ) (new other : B) where
  pub tally_refused : 18446744073709551615 < tally → benched (tally_test tally ∷ []) new other ≡ refused Tally other
  unfolding tally_test
  tally_refused h = benched_failed (tally_test tally ∷ []) new other Tally (lowest_here (tally_test tally) [] (lt→ltb 18446744073709551615 tally h))

  pub tally_passed : tally ≤ 18446744073709551615 → benched (tally_test tally ∷ []) new other ≡ done_with new
  unfolding tally_test
  tally_passed h =
      benched_passed (tally_test tally ∷ []) new other (lowest_next (tally_test tally) [] (λ t. omega (arith, ltb→lt 18446744073709551615 tally t)) ∙ lowest_none)
