-- The place of an argument list, by its length.
use Prim.Native.Nat.{ℕ, ◌+◌, ◌*◌}
use mathlib.Core.List.{[], ◌∷◌}
use mathlib.Core.Path.{◌≡◌}
use native.Mathlib.Nat.{pow-zero}
use native.Mathlib.Omega.{arith}
use Rattle.algebra.specs.Algebra.{place}
use Rattle.algebra.proofs.Powers.{power_one, power_two}

pub place_one : (n x : ℕ) → place n (x ∷ []) ≡ x
unfolding place
place_one n x = rw (pow-zero n) (omega arith)

pub place_two : (n x u : ℕ) → place n (x ∷ u ∷ []) ≡ x * n + u
unfolding place
place_two n x u = rw (power_one n, pow-zero n) (omega arith)

pub place_three : (n x u v : ℕ) → place n (x ∷ u ∷ v ∷ []) ≡ x * (n * n) + u * n + v
unfolding place
place_three n x u v = rw (power_two n, power_one n, pow-zero n) (omega arith)
