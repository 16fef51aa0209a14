-- The order of the reasons: a reason is known by its number; where tests rise by rank, the first that applies is the lowest; and so a call's
-- refusals come each under its condition only.
use Prim.Native.Nat.{ℕ, ◌≤◌}
use mathlib.Core.List.Memᴰ.{cases_cons}
use mathlib.Core.List.Memᴰ.{head as here}
use mathlib.Core.List.Memᴰ.{not-nil}
use mathlib.Core.List.Memᴰ.{tail as there}
use mathlib.Core.List.{List, [], ◌∷◌, Memᴰ as Member}
use mathlib.Core.Logic.{inl, inr}
use mathlib.Core.Path.{◌≡◌, refl, sym, ap, subst, ◌∙◌}
use native.Mathlib.Omega.{arith}
use lib.Dec.{T, eqb, leb, leb→le}
use Rattle.equivalence.specs.Lists.{first}
use Rattle.equivalence.specs.Outcome.{Injective}
use Rattle.equivalence.specs.Lent.{lent_after}
use Rattle.equivalence.specs.Ranks.{rank, rises, LowestReason, ReasonRight, RefusalRight}
use Rattle.equivalence.specs.Refusal.{Test, number_of, lowest, answered, serve}
use Rattle.equivalence.proofs.Refusals.{ok_never, same_reason, lowest_none, lowest_here, lowest_next}
use Rattle.equivalence.proofs.Tests.{T?, left, right}
use Rattle.equivalence.specs.declared.Refusal.{Refusal}
use Rattle.equivalence.specs.declared.Refusal.TheVariants.{Size, Operations, Arity, Cells, Length, Cell, Range, NotMap, Space, Equal, NotCongruence, Tally, Text, UnknownName, PointsFull}
use Rattle.std.specs.Prelude.{⊤, Result, Ok, Err}

-- ---- a reason is known by its number, and by its rank

-- the reason with a number
numbered : ℕ → Refusal
numbered k =
    first (λ r. eqb (number_of r) k) Text (Size ∷ Operations ∷ Arity ∷ Cells ∷ Length ∷ Cell ∷ Range ∷ NotMap ∷ Space ∷ Equal ∷ NotCongruence ∷ Tally ∷ UnknownName ∷ PointsFull ∷ [])

numbered_number : (r : Refusal) → numbered (number_of r) ≡ r
unfolding numbered number_of first
numbered_number Size = refl
numbered_number Operations = refl
numbered_number Arity = refl
numbered_number Cells = refl
numbered_number Length = refl
numbered_number Cell = refl
numbered_number Range = refl
numbered_number NotMap = refl
numbered_number Space = refl
numbered_number Equal = refl
numbered_number NotCongruence = refl
numbered_number Tally = refl
numbered_number Text = refl
numbered_number UnknownName = refl
numbered_number PointsFull = refl

pub number_of_injective : Injective number_of
number_of_injective r s e = sym (numbered_number r) ∙ ap numbered e ∙ numbered_number s

pub rank_injective : Injective rank
unfolding rank
rank_injective r s e = number_of_injective r s e

-- ---- the first reason that applies is the lowest

-- no test of a rising list has a lower rank than its first
rises_first : (t : Test) (rest : List Test) → T (rises (t ∷ rest)) → (u : Test) → Member u rest → rank t.reason ≤ rank u.reason
unfolding rises
rises_first t [] h u m = absurd (not-nil m)
rises_first t (v ∷ rest) h u m =
    let next : rank t.reason ≤ rank v.reason = leb→le (rank t.reason) (rank v.reason) (left (leb (rank t.reason) (rank v.reason)) (rises (v ∷ rest)) h) in
    elim (cases_cons m) [
      | inl e ↦ subst (λ (w : Test). rank t.reason ≤ rank w.reason) (sym e) next
      | inr k ↦ omega (arith, next, rises_first v rest (right (leb (rank t.reason) (rank v.reason)) (rises (v ∷ rest)) h) u k)
    ]

-- what stands behind the first test of a rising list rises
rises_rest : (t : Test) (rest : List Test) → T (rises (t ∷ rest)) → T (rises rest)
unfolding rises
rises_rest t [] h = tt
rises_rest t (u ∷ rest) h = right (leb (rank t.reason) (rank u.reason)) (rises (u ∷ rest)) h

-- a refusal among the tests behind one that does not apply
lowest_behind : (t : Test) (rest : List Test) (r : Refusal) → ¬ T t.applies → LowestReason rest r → LowestReason (t ∷ rest) r
lowest_behind t rest r h l =
    record {
      test = l.test;
      listed = there l.listed;
      applies = l.applies;
      reason = l.reason;
      lowest = λ u m a. elim (cases_cons m) [ inl e ↦ absurd (h (subst (λ (w : Test). T w.applies) e a)) | inr k ↦ l.lowest u k a ];
    }

-- the reason that is found is the lowest
found_lowest : (tests : List Test) → T (rises tests) → (r : Refusal) → lowest tests ≡ Err r → LowestReason tests r
found_lowest [] up r e = absurd (ok_never (sym lowest_none ∙ e))
found_lowest (t ∷ rest) up r e =
    elim (T? t.applies) [
      | yes h ↦ let is : t.reason ≡ r = same_reason (sym (lowest_here t rest h) ∙ e) in
          record {
            test = t;
            listed = here refl;
            applies = h;
            reason = is;
            lowest = λ u m a. elim (cases_cons m) [
              | inl e ↦ subst (λ (s : Refusal). rank s ≤ rank u.reason) is (subst (λ (w : Test). rank t.reason ≤ rank w.reason) (sym e) (omega arith))
              | inr k ↦ subst (λ (s : Refusal). rank s ≤ rank u.reason) is (rises_first t rest up u k)
            ];
          }
      | no h ↦ lowest_behind t rest r h (found_lowest rest (rises_rest t rest up) r (sym (lowest_next t rest h) ∙ e))
    ]

-- the lowest reason is found
lowest_found : (tests : List Test) → T (rises tests) → (r : Refusal) → LowestReason tests r → lowest tests ≡ Err r
lowest_found [] up r l = absurd (not-nil l.listed)
lowest_found (t ∷ rest) up r l =
    elim (T? t.applies) [
      | yes h ↦ let most : rank t.reason ≤ rank l.test.reason = elim (cases_cons l.listed) [
        | inl e ↦ subst (λ (w : Test). rank t.reason ≤ rank w.reason) (sym e) (omega arith)
        | inr k ↦ rises_first t rest up l.test k
      ] in
          let same : rank l.test.reason ≡ rank r = ap rank l.reason in
          lowest_here t rest h ∙ ap Err (rank_injective t.reason r (omega (arith, most, same, l.lowest t (here refl) h)))
      | no h ↦ lowest_next t rest h
          ∙ lowest_found rest (rises_rest t rest up) r
          (record {
            test = l.test;
            listed = elim (cases_cons l.listed) [ inl e ↦ absurd (h (subst (λ (w : Test). T w.applies) e l.applies)) | inr k ↦ k ];
            applies = l.applies;
            reason = l.reason;
            lowest = λ u m a. l.lowest u (there m) a;
          })
    ]

-- the tests of a call rise: it is refused with the lowest reason, and only so
pub lowest_reason : (tests : List Test) → T (rises tests) → ReasonRight (lowest tests) tests
lowest_reason tests up r = (found_lowest tests up r, lowest_found tests up r)

-- a call that answers by its tests is refused by the same law
module _ {A : Type 0} (answer : A) where
  err_of : (r : Refusal) (c : Result ⊤ Refusal) → answered Err c (Ok answer) ≡ Err r → c ≡ Err r
  unfolding answered
  err_of r (Ok x) e = absurd (ok_never e)
  err_of r (Err s) e = ap Err (same_reason e)

  pub answered_reason : (tests : List Test) → T (rises tests) → ReasonRight (answered Err (lowest tests) (Ok answer)) tests
  unfolding answered
  answered_reason tests up r = (
    λ e. found_lowest tests up r (err_of r (lowest tests) e),
    λ l. ap (λ (c : Result ⊤ Refusal). answered Err c (Ok answer)) (lowest_found tests up r l),
  )

  -- and where it writes, a refusal leaves every lent byte
  pub serve_refusal : (tests : List Test) (new lent : List ℕ) → T (rises tests) → RefusalRight (serve tests answer new lent) tests lent
  unfolding serve lent_after
  serve_refusal tests new lent up =
      let right : ReasonRight (answered Err (lowest tests) (Ok answer)) tests = answered_reason tests up in
      record { reason = right; unwritten = λ r e. ap (λ (c : Result ⊤ Refusal). lent_after c new lent) (lowest_found tests up r ((right r).0 e)) }
