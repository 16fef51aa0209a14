-- A congruence is maximal for some pair if and only if it has two blocks or more and its quotient is irreducible.
use Prim.Native.Nat.{ℕ, ◌≤◌, ◌<◌}
use mathlib.Core.Bool.{not}
use mathlib.Core.Logic.{◌≢◌}
use mathlib.Core.Path.{◌≡◌, sym, ap, ◌∙◌}
use native.Mathlib.Decide.{ℕ_discrete}
use native.Mathlib.Omega.{arith}
use lib.Dec.{T, not_T, T_not}
use Rattle.equivalence.specs.Equivalence.{Map, byte, blocks, block_of}
use Rattle.equivalence.specs.Lists.{any}
use Rattle.pairorder.specs.Order.{pairs}
use Rattle.equivalence.proofs.BlockNumbers.{smallest, block_below, smallest_below, block_smallest, block_holds, of_block}
use Rattle.equivalence.proofs.Maps.{discrete_identity}
use Rattle.equivalence.proofs.Tests.{T?, true_is, false_is}
use Rattle.algebra.specs.Algebra.{Algebra}
use Rattle.algebra.proofs.Accepted.{WellFormed}
use Rattle.algebra.proofs.Congruences.{IsCongruence}
use Rattle.theory.specs.Certify.{is_maximal_for}
use Rattle.theory.specs.Decompose.{reducible, common_pair}
use Rattle.theory.proofs.Certificates.{any_is_maximal_for, of_any_is_maximal_for}
use Rattle.theory.proofs.CommonPair.{Common, FirstCommon, common_pair_law}
use Rattle.theory.proofs.Correspondence.{pushed, of_pushed, pushed_congruence, pushed_is}
use Rattle.theory.proofs.Factors.{reducible_splits, unsplit}
use Rattle.theory.proofs.Quotients.{quotient_well_formed, quotient_unsplit}
use Rattle.quotient.specs.Quotient.{quotient}

-- of two elements, every congruence but the identity joins them
two_common : (a : Algebra) → a.size ≡ 2 → Common a 0 1
two_common a two d q n =
    let first : byte d 0 ≡ 0 = omega (arith, q.map.low 0 (omega arith)) in
    elim (ℕ_discrete (byte d 1) 0) [
      | yes e ↦ first ∙ sym e
      | no e ↦ let second : byte d 1 ≡ 1 = omega (arith, q.map.low 1 (omega arith)) in
          let self : (x : ℕ) → x < a.size → byte d x ≡ x =
          λ x l. elim (ℕ_discrete x 0) [ yes z ↦ ap (byte d) z ∙ first ∙ sym z | no z ↦ let o : x ≡ 1 = omega arith in ap (byte d) o ∙ second ∙ sym o ] in
          absurd (n (discrete_identity a.size d q.map (λ x y l k h. sym (self x l) ∙ h ∙ self y k)))
    ]

module _ (a : Algebra) (c : WellFormed a) (m : Map) (p : IsCongruence a m) where
  -- some pair that every strictly larger congruence joins is held apart
  abbrev Maximal : Type 0
  Maximal = T (any (is_maximal_for a m) (pairs a.size))

  -- a pair of blocks that every congruence of the quotient but the identity joins, by its smallest members
  common_maximal : (i j : ℕ) → i < blocks a.size m → j < blocks a.size m → i ≢ j → Common (quotient a m) i j → Maximal
  unfolding quotient
  common_maximal i j l k n h =
      let low : (b : ℕ) → b < blocks a.size m → smallest a.size m b < a.size = λ b o. (smallest_below a.size m p.map b o).0 in
      any_is_maximal_for a m (smallest a.size m i) (smallest a.size m j) (low i l) (low j k)
      (record {
        cong = p;
        apart = λ e. n (sym (block_smallest a.size m p.map i l) ∙ block_holds a.size m p.map _ _ e ∙ block_smallest a.size m p.map j k);
        joined = λ d q above d≢m. of_pushed a c m p d q above i j l k
            (h (pushed a c m p d) (pushed_congruence a c m p d q above) (λ e. d≢m (pushed_is a c m p d q above e)));
      })

  -- one block: no pair is held apart
  pub maximal_blocks : Maximal → 2 ≤ blocks a.size m
  maximal_blocks t =
      let r = of_any_is_maximal_for a m p t in
      let below : (x : ℕ) → x < a.size → block_of m x < blocks a.size m = block_below a.size m p.map in
      elim (ℕ_discrete (block_of m r.0) (block_of m r.1)) [
        | yes e ↦ absurd (r.4.apart (of_block a.size m p.map r.0 r.1 r.2 r.3 e))
        | no e ↦ omega (arith, below r.0 r.2, below r.1 r.3)
      ]

  -- two blocks: they are a pair that every strictly larger congruence joins
  pub two_maximal : blocks a.size m ≡ 2 → Maximal
  unfolding quotient
  two_maximal two = common_maximal 0 1 (omega arith) (omega arith) (omega arith) (two_common (quotient a m) two)

  pub maximal_irreducible : Maximal → ¬ T (reducible (quotient a m))
  maximal_irreducible t s =
      let r = of_any_is_maximal_for a m p t in
      reducible_splits (quotient a m) (quotient_well_formed a c m p) s (quotient_unsplit a c m p r.0 r.1 r.2 r.3 r.4)

  pub irreducible_maximal : 2 ≤ blocks a.size m → ¬ T (reducible (quotient a m)) → Maximal
  unfolding quotient
  irreducible_maximal two t =
      let w : WellFormed (quotient a m) = quotient_well_formed a c m p in
      let f : FirstCommon (quotient a m) (common_pair (quotient a m)) = common_pair_law (quotient a m) w two (unsplit (quotient a m) w t) in
      common_maximal (common_pair (quotient a m)).0 (common_pair (quotient a m)).1 (omega (arith, f.order, f.below)) f.below (omega (arith, f.order)) f.shared

  -- the same as tests
  pub maximal_test : 2 ≤ blocks a.size m → not (reducible (quotient a m)) ≡ any (is_maximal_for a m) (pairs a.size)
  maximal_test two =
      elim (T? (any (is_maximal_for a m) (pairs a.size))) [
        | yes t ↦ sym (true_is (not (reducible (quotient a m))) (not_T (reducible (quotient a m)) (maximal_irreducible t))) ∙ true_is (any (is_maximal_for a m) (pairs a.size)) t
        | no t ↦ sym (false_is (not (reducible (quotient a m))) (λ s. t (irreducible_maximal two (T_not (reducible (quotient a m)) s)))) ∙ false_is (any (is_maximal_for a m) (pairs a.size)) t
      ]
