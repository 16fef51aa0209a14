-- Document 01's examples as the definitions of this crate give them, computed; `congruence` has all of them as the calls answer.
use mathlib.Core.Bool.{true, false}
use mathlib.Core.List.{[], ◌∷◌}
use mathlib.Core.Path.{◌≡◌, refl}
use Rattle.equivalence.specs.Equivalence.{is_map, holds, inside, names_of, blocks, block_of, map_of, identity, whole, same, is_identity, meet, meet_all, maps, best}
use Rattle.equivalence.specs.Lists.{up_to, every, any, keep, first, concat}
use Rattle.pairorder.specs.Order.{pairs, not_later_on, not_later, first_held}
use Rattle.algebra.specs.Algebra.{cell_count, operations_of, operations, arguments, place, value}
use Rattle.algebra.specs.Congruence.{respects, is_congruence, congruences}
use Rattle.theory.specs.Samples.{u, c, bare, minimum}
use Rattle.theory.specs.Certify.{is_maximal_for, certified}
use Rattle.theory.specs.Decompose.{added, gathered, pruned, listed, reducible, factor_space, common_pair}
use Rattle.theory.specs.Extremal.{holds_all, above, generated, contained, separated}
use Rattle.quotient.specs.Quotient.{quotient_table, quotient_cells}

pub record TheoryExamples : Type 0 where
  pub one : generated u (0 ∷ 2 ∷ []) ≡ 0 ∷ 1 ∷ 0 ∷ 1 ∷ []
  pub two : generated u (2 ∷ 3 ∷ []) ≡ 0 ∷ 1 ∷ 2 ∷ 2 ∷ []
  pub three : generated u [] ≡ 0 ∷ 1 ∷ 2 ∷ 3 ∷ []
  pub four : contained u (0 ∷ 0 ∷ 0 ∷ 3 ∷ []) ≡ 0 ∷ 0 ∷ 2 ∷ 3 ∷ []
  pub five : separated u 0 1 ≡ 0 ∷ 1 ∷ 0 ∷ 1 ∷ []
  pub six : (reducible u ≡ true) × (listed u ≡ (0 ∷ 1 ∷ 0 ∷ 1 ∷ []) ∷ (0 ∷ 0 ∷ 2 ∷ 2 ∷ []) ∷ [])
  pub seven : (reducible c ≡ false) × (common_pair c ≡ (0, 2))
  pub eight : (reducible (bare 3) ≡ true) × (listed (bare 3) ≡ (0 ∷ 1 ∷ 0 ∷ []) ∷ (0 ∷ 0 ∷ 2 ∷ []) ∷ [])
  pub nine : (reducible (bare 2) ≡ false) × (common_pair (bare 2) ≡ (0, 1))
  pub ten : (reducible (bare 1) ≡ false) × (common_pair (bare 1) ≡ (0, 0))
  pub eleven : (reducible minimum ≡ true) × (listed minimum ≡ (0 ∷ 1 ∷ 1 ∷ []) ∷ (0 ∷ 0 ∷ 2 ∷ []) ∷ [])
  -- the shortcut of applying the operations once would stop at 0 0 0 3
  pub closure : generated c (0 ∷ 1 ∷ []) ≡ 0 ∷ 0 ∷ 0 ∷ 0 ∷ []
  -- Certify: yes to what Decompose lists; no to a map that is no congruence, to a list that does not meet in the identity, to a repeated map, and to
  -- the identity where larger congruences have no pair in common
  pub certificates : (certified u (listed u) ≡ true)
      × (certified u ((0 ∷ 1 ∷ 0 ∷ 3 ∷ []) ∷ (0 ∷ 0 ∷ 2 ∷ 2 ∷ []) ∷ []) ≡ false)
      × (certified u ((0 ∷ 1 ∷ 0 ∷ 1 ∷ []) ∷ []) ≡ false)
      × (certified u ((0 ∷ 1 ∷ 0 ∷ 1 ∷ []) ∷ (0 ∷ 0 ∷ 2 ∷ 2 ∷ []) ∷ (0 ∷ 1 ∷ 0 ∷ 1 ∷ []) ∷ []) ≡ false)
      × (certified u ((0 ∷ 1 ∷ 2 ∷ 3 ∷ []) ∷ []) ≡ false)
      × (certified c ((0 ∷ 1 ∷ 2 ∷ 3 ∷ []) ∷ []) ≡ true)
  -- what Decompose wants of space: two maps over four elements, and nothing
  pub space : (factor_space u ≡ 8) × (factor_space c ≡ 0)
  pub divided : quotient_cells u (0 ∷ 1 ∷ 0 ∷ 1 ∷ []) ≡ 1 ∷ 0 ∷ []

pub theory_examples : TheoryExamples
unfolding up_to every any first holds concat map_of keep maps names_of blocks block_of best meet_all inside same is_identity is_map not_later not_later_on pairs
    identity whole meet first_held is_congruence operations operations_of cell_count arguments place value respects quotient_cells quotient_table
    congruences holds_all above generated contained separated added gathered pruned listed common_pair reducible factor_space certified is_maximal_for
theory_examples =
    record {
      one = refl;
      two = refl;
      three = refl;
      four = refl;
      five = refl;
      six = (refl, refl);
      seven = (refl, refl);
      eight = (refl, refl);
      nine = (refl, refl);
      ten = (refl, refl);
      eleven = (refl, refl);
      closure = refl;
      certificates = (refl, refl, refl, refl, refl, refl);
      space = (refl, refl);
      divided = refl;
    }
