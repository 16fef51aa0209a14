-- A function that is not compatible with a unary operation, computed from the definition.
use mathlib.Core.List.{[], ◌∷◌}
use mathlib.Core.Path.{◌≡◌, refl}
use native.Mathlib.Omega.{arith}
use Prim.Native.Nat.{ℕ}
use Rattle.equivalence.specs.Equivalence.{byte}
use Rattle.algebra.specs.Algebra.{algebra_of, cell_count, place}
use Rattle.translation.specs.InnerTranslations.{result, Compatible}

-- 0 to 0, 1 and 2 to 2: the map 0 0 2 joins 0 and 1, but not their images
pub not_compatible : Compatible (algebra_of 3 (1 ∷ []) (0 ∷ 2 ∷ 2 ∷ [])) (byte (0 ∷ 0 ∷ 2 ∷ [])) → ⊥
unfolding result place cell_count
not_compatible h = let images : ◌≡◌ {A = ℕ} 0 2 = h 0 1 (omega arith) (omega arith) refl 0 (omega arith) [] [] refl tt tt in absurd (omega arith)
