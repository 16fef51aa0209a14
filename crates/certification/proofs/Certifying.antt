-- Certify of an accepted algebra: the answer where one of the conditions fails, and where the last decides.
use mathlib.Core.Bool.{Bool, true, false, not, ◌&&◌}
use mathlib.Core.List.{List}
use mathlib.Core.Path.{◌≡◌, refl, sym, ap, ◌∙◌}
use lib.ListN.{length}
use Rattle.equivalence.specs.Equivalence.{Map, is_map, is_identity, meet_all}
use Rattle.equivalence.specs.Lists.{up_to, every, any, without}
use Rattle.pairorder.specs.Order.{pairs}
use Rattle.equivalence.proofs.Tests.{and_true}
use Rattle.algebra.specs.Algebra.{Algebra}
use Rattle.algebra.specs.Congruence.{is_congruence}
use Rattle.theory.specs.Certify.{is_maximal_for, certified}
use Rattle.irredundance.specs.InnerIrredundant.{irredundant}
use borrow.Author.Tests.{not-true, not-false}

regroup : (p q r s : Bool) → (p && q && r && s) ≡ ((q && r) && (p && s))
regroup true q r s = refl
regroup false true true s = refl
regroup false true false s = refl
regroup false false r s = refl

module _ (a : Algebra) (ms : List Map) where
  abbrev congruences_all : Bool
  congruences_all = every (λ m. is_map a.size m && is_congruence a m) ms

  abbrev maximal_all : Bool
  maximal_all = every (λ m. any (is_maximal_for a m) (pairs a.size)) ms

  -- the cheapest first
  in_turn_lem : certified a ms ≡ (irredundant a.size ms && (congruences_all && maximal_all))
  unfolding certified irredundant
  in_turn_lem = regroup congruences_all (is_identity a.size (meet_all a.size ms)) (every (λ i. not (is_identity a.size (meet_all a.size (without i ms)))) (up_to (length ms))) maximal_all

  pub not_irredundant : {r : Bool} → r ≡ irredundant a.size ms → not r ≡ true → false ≡ certified a ms
  not_irredundant e f = sym (in_turn_lem ∙ ap (λ (z : Bool). z && (congruences_all && maximal_all)) (sym e ∙ not-true _ f))

  module _ {q : Bool} (e : q ≡ irredundant a.size ms) (f : not q ≡ false) where
    left : certified a ms ≡ (congruences_all && maximal_all)
    left = in_turn_lem ∙ sym (and_true (sym e ∙ not-false _ f))

    pub not_congruent : {r : Bool} → r ≡ every (λ m. is_map a.size m && is_congruence a m) ms → not r ≡ true → false ≡ certified a ms
    not_congruent g h = sym (left ∙ ap (λ (z : Bool). z && maximal_all) (sym g ∙ not-true _ h))

    pub maximal_decides : {r s : Bool} → r ≡ every (λ m. is_map a.size m && is_congruence a m) ms → not r ≡ false
        → s ≡ every (λ m. any (is_maximal_for a m) (pairs a.size)) ms → s ≡ certified a ms
    maximal_decides g h k = k ∙ and_true (sym g ∙ not-false _ h) ∙ sym left
