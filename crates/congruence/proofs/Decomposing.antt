-- What Decompose answers of an accepted algebra: how many factors where it is reducible, else 11 with a pair; 11 just where nothing splits it, and
-- of the quotient by a congruence that is maximal for some pair; and that the answer and the lent bytes follow from what the search found.
use Prim.Native.Nat.{ℕ, ◌*◌, ◌≤◌, ◌<◌}
use mathlib.Core.List.{List, []}
use mathlib.Core.Path.{◌≡◌, refl, sym, ap, ◌∙◌}
use native.Mathlib.Decide.{dec_lt}
use native.Mathlib.Omega.{arith}
use lib.Dec.{T}
use lib.ListN.{length}
use Rattle.equivalence.specs.Equivalence.{Map}
use Rattle.equivalence.specs.Lists.{concat}
use Rattle.equivalence.specs.Lent.{written}
use Rattle.equivalence.proofs.Refusals.{lowest_none, lowest_append, serve_passed, serve_failed, space_passed, space_refused, handed_on}
use Rattle.equivalence.proofs.Tests.{T?, pick_yes, pick_no}
use Rattle.equivalence.specs.Refusal.{lowest}
use Rattle.equivalence.specs.declared.Refusal.{Refusal}
use Rattle.equivalence.specs.declared.Refusal.TheVariants.{Space}
use Rattle.equivalence.specs.declared.Element.{Element}
use Rattle.algebra.specs.Algebra.{Algebra}
use Rattle.algebra.specs.Accepted.{algebra_tests, Accepted}
use Rattle.algebra.proofs.Accepted.{WellFormed}
use Rattle.algebra.proofs.Tested.{algebra_declines, passed_accepted, declined}
use Rattle.algebra.proofs.Congruences.{IsCongruence}
use Rattle.quotient.specs.Quotient.{quotient}
use Rattle.theory.specs.Decompose.{listed, reducible, factor_space}
use Rattle.theory.specs.Splitting.{Splitting}
use Rattle.theory.proofs.Factors.{split, unsplit, factor_space_yes, factor_space_no}
use Rattle.theory.proofs.Quotients.{quotient_well_formed, quotient_unsplit}
use Rattle.theory.proofs.Separation.{MaximalFor}
use Rattle.decomposition.specs.InnerFactored.{irreducible_with, found_in}
use Rattle.decomposition.proofs.Finding.{listed_short, listed_all, found_reducible, found_irreducible}
use Rattle.congruence.specs.Calls.{irreducible_answer, decomposed, factor_bytes, decompose_call}
use Rattle.std.specs.Prelude.{⊤, Result, Ok, Err, IsErrAnd}
use Rattle.decomposition.specs.declared.Decomposed.{Decomposed}
use Rattle.decomposition.specs.declared.Decomposed.TheVariants.{Factors, Irreducible}

module _ (a : Algebra) where
  pub decomposed_yes : T (reducible a) → decomposed a ≡ Factors (length (listed a))
  unfolding decomposed
  decomposed_yes t = pick_yes (reducible a) (Factors (length (listed a))) (irreducible_answer a) t

  pub decomposed_no : ¬ T (reducible a) → decomposed a ≡ irreducible_answer a
  unfolding decomposed
  decomposed_no t = pick_no (reducible a) (Factors (length (listed a))) (irreducible_answer a) t

module _ (a : Algebra) (c : WellFormed a) where
  -- 11 comes just where nothing splits the algebra
  pub irreducible_of : ((ms : List Map) → ¬ Splitting a ms) → decomposed a ≡ irreducible_answer a
  irreducible_of h = decomposed_no a (λ t. h (listed a) (split a c t))

  pub of_irreducible : (x y : Element) → decomposed a ≡ Irreducible x y → (ms : List Map) → ¬ Splitting a ms
  of_irreducible x y e = unsplit a c (λ t. let d = decomposed_yes a t in cc)

-- the quotient by a congruence that is maximal for some pair answers 11
pub quotient_irreducible : (a : Algebra) → WellFormed a → (m : Map) → IsCongruence a m → (x y : ℕ) → x < a.size → y < a.size → MaximalFor a m x y
    → decomposed (quotient a m) ≡ irreducible_answer (quotient a m)
quotient_irreducible a c m p x y l k h = irreducible_of (quotient a m) (quotient_well_formed a c m p) (quotient_unsplit a c m p x y l k h)

-- ---- what is written

pub factor_bytes_yes : (a : Algebra) → T (reducible a) → factor_bytes a ≡ concat (listed a)
unfolding factor_bytes
factor_bytes_yes a t = pick_yes (reducible a) (concat (listed a)) [] t

pub factor_bytes_no : (a : Algebra) → ¬ T (reducible a) → factor_bytes a ≡ []
unfolding factor_bytes
factor_bytes_no a t = pick_no (reducible a) (concat (listed a)) [] t

-- ---- the call of an accepted algebra, whatever is lent

module _ (a : Algebra) (accepted : Accepted a) (lent : List ℕ) where
  pub decompose_served : factor_space a ≤ length lent → decompose_call a lent ≡ (Ok (decomposed a), written (factor_bytes a) lent)
  unfolding decompose_call Accepted
  decompose_served room =
      serve_passed _ (decomposed a) (factor_bytes a) lent
      (lowest_append (algebra_tests a) _ accepted ∙ space_passed (factor_space a) (length lent) [] room ∙ lowest_none)

  pub decompose_factors : T (reducible a) → length (listed a) * a.size ≤ length lent
      → decompose_call a lent ≡ (Ok (Factors (length (listed a))), written (concat (listed a)) lent)
  decompose_factors t room = rw (decompose_served (rw (factor_space_yes a t) room), decomposed_yes a t, factor_bytes_yes a t)

  pub decompose_short : T (reducible a) → length lent < length (listed a) * a.size → decompose_call a lent ≡ (Err Space, lent)
  unfolding decompose_call Accepted
  decompose_short t few =
      serve_failed _ (decomposed a) (factor_bytes a) lent Space
      (lowest_append (algebra_tests a) _ accepted ∙ space_refused (factor_space a) (length lent) [] (rw (factor_space_yes a t) few))

  pub decompose_irreducible : ¬ T (reducible a) → decompose_call a lent ≡ (Ok (irreducible_answer a), lent)
  unfolding written
  decompose_irreducible t = rw (decompose_served (rw (factor_space_no a t) (omega arith)), decomposed_no a t, factor_bytes_no a t)

-- ---- from what the function found

pub decompose_declined : (a : Algebra) (lent : List ℕ) {check : Result ⊤ Refusal} {r : Refusal} → check ≡ Err r → check ≡ lowest (algebra_tests a)
    → {answer : Result Decomposed Refusal} → IsErrAnd answer (λ e. e ≡ r) → (answer, lent) ≡ decompose_call a lent
unfolding decompose_call
decompose_declined a lent {check} {r} known e h =
    ap (λ (d : Result Decomposed Refusal). (d, lent)) (handed_on h) ∙ declined _ _ _ lent (algebra_declines a _ r known e) r refl

-- the call answers what was found, and leaves the same bytes
found_answered : (a : Algebra) → Accepted a → (lent : List ℕ) → decompose_call a lent ≡ found_in a lent
unfolding irreducible_with
found_answered a accepted lent =
    elim (T? (reducible a)) [
      | yes t ↦ elim (dec_lt (length lent) (length (listed a) * a.size)) [
        | yes l ↦ rw (decompose_short a accepted lent t l, found_reducible a lent t, listed_short a.size (listed a) lent l)
        | no l ↦
            let room : length (listed a) * a.size ≤ length lent = omega (arith, l) in
            rw (decompose_factors a accepted lent t room, found_reducible a lent t, listed_all a.size (listed a) lent room)
      ]
      | no t ↦ rw (decompose_irreducible a accepted lent t, found_irreducible a lent t)
    ]

pub decompose_found : (a : Algebra) (lent : List ℕ) {check : Result ⊤ Refusal} → check ≡ Ok tt → check ≡ lowest (algebra_tests a)
    → {found : Result Decomposed Refusal} {after : List ℕ} → (found, after) ≡ found_in a lent → (found, after) ≡ decompose_call a lent
decompose_found a lent known e f = f ∙ sym (found_answered a (passed_accepted a known e) lent)
