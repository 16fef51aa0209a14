-- The calls of an accepted algebra: what Decompose answers, whatever is lent; Quotient with room enough; and demand 3 over them together.
-- first, so that a wrong definition is refused by an example that it makes false
use Prim.Native.Nat.{ℕ, ◌*◌, ◌≤◌, ◌<◌}
use mathlib.Core.List.{List, []}
use mathlib.Core.Path.{◌≡◌, sym, ap, ◌∙◌}
use native.Mathlib.Decide.{dec_lt}
use native.Mathlib.Omega.{arith}
use lib.Dec.{T}
use lib.ListN.{length, get_or, drop}
use lib.Seq.{take_at}
use Rattle.equivalence.specs.Equivalence.{Map, is_map, blocks}
use Rattle.equivalence.specs.Lists.{concat}
use Rattle.equivalence.specs.Lent.{stretch, written}
use Rattle.equivalence.specs.Refusal.{lowest, map_test}
use Rattle.equivalence.proofs.Refusals.{lowest_none, lowest_next, lowest_append, serve_passed, space_passed, same_answer}
use Rattle.equivalence.proofs.Stretches.{stretch_concat}
use Rattle.equivalence.proofs.Tests.{T?}
use Rattle.algebra.specs.Accepted.{algebra_tests, Accepted}
use Rattle.algebra.specs.Algebra.{Algebra}
use Rattle.algebra.specs.Congruence.{is_congruence, Congruence}
use Rattle.algebra.proofs.Accepted.{WellFormed, accepted_well_formed, not_yes, well_formed_accepted}
use Rattle.algebra.proofs.Congruences.{congruence_is}
use Rattle.congruence.specs.Calls.{element, irreducible_answer, congruence_test, quotient_space, quotient_tests, quotient_call, algebra_from, decomposed, decompose_call}
use Rattle.theory.specs.Decompose.{listed, factor_space, reducible, common_pair}
use Rattle.congruence.specs.Demands.{Answers11, SpaceTheorem, QuotientAnswers11, FactorCalls}
use Rattle.congruence.proofs.Demands.{listed_right}
use Rattle.theory.proofs.Factors.{listed_long, unsplit, reducible_splits, splits_reducible, factor_space_most}
use Rattle.congruence.proofs.Decomposing.{decomposed_yes, decomposed_no, of_irreducible, factor_bytes_yes, decompose_served, decompose_factors, decompose_short, decompose_irreducible}
use Rattle.theory.proofs.Quotients.{quotient_cells_length, quotient_well_formed}
use Rattle.quotient.specs.Quotient.{quotient_cells, quotient}
use Rattle.equivalence.specs.declared.Refusal.TheVariants.{Space}
use Rattle.std.specs.Prelude.{Result, Ok, Err}
use Rattle.equivalence.specs.declared.Refusal.{Refusal}
use Rattle.decomposition.specs.declared.Decomposed.{Decomposed}
use Rattle.decomposition.specs.declared.Decomposed.TheVariants.{Factors}

-- ---- Decompose

-- where Decompose counts factors, the algebra is reducible and the count is the list's
pub factors_reducible : (a : Algebra) (k : ℕ) → decomposed a ≡ Factors k → T (reducible a) × (k ≡ length (listed a))
factors_reducible a k e =
    elim (T? (reducible a)) [
      | yes t ↦ let d = decomposed_yes a t in (t, cc)
      | no t ↦ let d = decomposed_no a t in absurd (cc)
    ]

-- 9, 11 or the factors, whatever is lent
module _ (a : Algebra) (accepted : Accepted a) (lent : List ℕ) where
  abbrev answer : Result Decomposed Refusal
  answer = (decompose_call a lent).0

  abbrev wanted : ℕ
  wanted = length (listed a) * a.size

  well : WellFormed a
  well = accepted_well_formed a accepted

  answer_short : T (reducible a) → length lent < wanted → answer ≡ Err Space
  answer_short t l = ap (λ (r : Result Decomposed Refusal × List ℕ). r.0) (decompose_short a accepted lent t l)

  answer_factors : T (reducible a) → wanted ≤ length lent → answer ≡ Ok (Factors (length (listed a)))
  answer_factors t l = ap (λ (r : Result Decomposed Refusal × List ℕ). r.0) (decompose_factors a accepted lent t l)

  answer_eleven : ¬ T (reducible a) → answer ≡ Ok (irreducible_answer a)
  answer_eleven t = ap (λ (r : Result Decomposed Refusal × List ℕ). r.0) (decompose_irreducible a accepted lent t)

  -- the answers differ, so each tells its condition
  of_nine : answer ≡ Err Space → T (reducible a) × (length lent < wanted)
  of_nine e =
      elim (T? (reducible a)) [
        | yes t ↦ elim (dec_lt (length lent) wanted) [
          | yes l ↦ (t, l)
          | no l ↦ let f = answer_factors t (omega (arith, l)) in absurd (cc)
        ]
        | no t ↦ let f = answer_eleven t in absurd (cc)
      ]

  of_eleven : answer ≡ Ok (irreducible_answer a) → ¬ T (reducible a)
  of_eleven e t =
      elim (dec_lt (length lent) wanted) [
        | yes l ↦ let f = answer_short t l in cc
        | no l ↦ let f = answer_factors t (omega (arith, l)) in cc
      ]

  pub space_theorem : SpaceTheorem a lent
  space_theorem =
      record {
        nine = (
          λ e. (reducible_splits a well (of_nine e).0, (of_nine e).1),
          λ h. answer_short (splits_reducible a well h.0) h.1,
        );
        eleven = (λ e. unsplit a well (of_eleven e), λ u. answer_eleven (λ t. reducible_splits a well t u));
        factors = λ s l. decompose_factors a accepted lent (splits_reducible a well s) l;
        most = λ room. ap (λ (r : Result Decomposed Refusal × List ℕ). r.0) (decompose_served a accepted lent (omega (arith, factor_space_most a well)));
      }

-- ---- Quotient

module _ (a : Algebra) (accepted : Accepted a) (m : Map) (p : Congruence a m) (tables : List ℕ) (room : quotient_space a m ≤ length tables) where
  quotient_passed : lowest (quotient_tests a m (length tables)) ≡ Ok tt
  unfolding Accepted map_test congruence_test
  quotient_passed =
      lowest_append (algebra_tests a) _ accepted
      ∙ lowest_next _ _ (not_yes (is_map a.size m) p.map)
      ∙ space_passed (quotient_space a m) (length tables) _ room
      ∙ lowest_next _ [] (not_yes (is_congruence a m) p.respects)
      ∙ lowest_none

  quotient_served : quotient_call a m tables ≡ (Ok (blocks a.size m), written (quotient_cells a m) tables)
  unfolding quotient_call
  quotient_served = serve_passed _ (blocks a.size m) (quotient_cells a m) tables quotient_passed

  pub quotient_answer : (quotient_call a m tables).0 ≡ Ok (blocks a.size m)
  quotient_answer = ap (λ (r : Result ℕ Refusal × List ℕ). r.0) quotient_served

  pub quotient_bytes : (quotient_call a m tables).1 ≡ written (quotient_cells a m) tables
  quotient_bytes = ap (λ (r : Result ℕ Refusal × List ℕ). r.1) quotient_served

  -- the tables that were written, with b and the arities, are the quotient
  pub quotient_algebra : algebra_from (blocks a.size m) a.arities (quotient_call a m tables).1 ≡ quotient a m
  unfolding quotient written
  quotient_algebra =
      let long : length (quotient_cells a m) ≡ quotient_space a m = quotient_cells_length a m in
      rw (quotient_bytes, take_at (quotient_cells a m) (drop (length (quotient_cells a m)) tables) (quotient_space a m) long)

-- ---- demand 3 over the calls

module _ (a : Algebra) (accepted : Accepted a) where
  -- Quotient by a congruence whose quotient answers 11
  pub quotient_answers11 : (m : Map) → Congruence a m → Answers11 (quotient a m) → QuotientAnswers11 a m
  quotient_answers11 m p e =
      record {
        given = λ tables h. quotient_answer a accepted m p tables h;
        answers11 = λ tables h b f again.
            let b-is : blocks a.size m ≡ b = same_answer (sym (quotient_answer a accepted m p tables h) ∙ f) in
            let well = quotient_well_formed a (accepted_well_formed a accepted) m (congruence_is a m p) in
            let space = space_theorem (quotient a m) (well_formed_accepted (quotient a m) well) again in (
              element (common_pair (quotient a m)).0,
              element (common_pair (quotient a m)).1,
              rw (← b-is, quotient_algebra a accepted m p tables h) (space.eleven.1 (of_irreducible (quotient a m) well _ _ e)),
            );
      }

  pub factor_calls_lem : (lent : List ℕ) → factor_space a ≤ length lent → FactorCalls a lent
  unfolding written
  factor_calls_lem lent room =
      let well : WellFormed a = accepted_well_formed a accepted in
      let served = decompose_served a accepted lent room in
      let answer : (decompose_call a lent).0 ≡ Ok (decomposed a) = ap (λ (r : Result Decomposed Refusal × List ℕ). r.0) served in
      let maps : (k i : ℕ) → decomposed a ≡ Factors k → i < k → stretch a.size (decompose_call a lent).1 i ≡ get_or (listed a) i [] =
      λ k i e l. let r = factors_reducible a k e in
      rw (served, factor_bytes_yes a r.0)
      (stretch_concat a.size (listed a) (drop (length (concat (listed a))) lent) (listed_long a well) i (omega (arith, r.1))) in
      record {
        answer = answer;
        maps = maps;
        quotients = λ k i e l.
            let d : decomposed a ≡ Factors k = same_answer (sym answer ∙ e) in
            let r = factors_reducible a k d in
            let f = listed_right a accepted r.0 in
            let j : i < length (listed a) = omega (arith, r.1) in
            rw (maps k i d l) (quotient_answers11 (get_or (listed a) i []) (f.congruences i j) (f.irreducible i j));
      }
