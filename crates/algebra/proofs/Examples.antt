-- Which maps are congruences, computed from the definition: of a binary operation that looks at its second argument alone, and of one that looks at its first.
use mathlib.Core.Bool.{true, false}
use mathlib.Core.List.{[], ◌∷◌}
use mathlib.Core.Path.{◌≡◌, refl}
use Rattle.equivalence.specs.Equivalence.{holds}
use Rattle.equivalence.specs.Lists.{up_to, every, concat}
use Rattle.algebra.specs.Algebra.{algebra_of, operations_of, operations, arguments, place, value}
use Rattle.algebra.specs.Congruence.{respects, is_congruence}

pub record AlgebraExamples : Type 0 where
  -- x, y to 0 for y = 0, else to 2: 0 and 1 are not equivalent, 1 and 2 are
  pub second : (is_congruence (algebra_of 3 (2 ∷ []) (0 ∷ 2 ∷ 2 ∷ 0 ∷ 2 ∷ 2 ∷ 0 ∷ 2 ∷ 2 ∷ [])) (0 ∷ 0 ∷ 2 ∷ []) ≡ false)
      × (is_congruence (algebra_of 3 (2 ∷ []) (0 ∷ 2 ∷ 2 ∷ 0 ∷ 2 ∷ 2 ∷ 0 ∷ 2 ∷ 2 ∷ [])) (0 ∷ 1 ∷ 1 ∷ []) ≡ true)
  -- the same with the arguments exchanged
  pub first : (is_congruence (algebra_of 3 (2 ∷ []) (0 ∷ 0 ∷ 0 ∷ 2 ∷ 2 ∷ 2 ∷ 2 ∷ 2 ∷ 2 ∷ [])) (0 ∷ 0 ∷ 2 ∷ []) ≡ false)
      × (is_congruence (algebra_of 3 (2 ∷ []) (0 ∷ 0 ∷ 0 ∷ 2 ∷ 2 ∷ 2 ∷ 2 ∷ 2 ∷ 2 ∷ [])) (0 ∷ 1 ∷ 1 ∷ []) ≡ true)

pub algebra_examples : AlgebraExamples
unfolding up_to every concat holds operations operations_of arguments place value respects is_congruence
algebra_examples = record { second = (refl, refl); first = (refl, refl) }
