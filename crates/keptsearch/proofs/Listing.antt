-- The names of a map, listed in their order.
use Prim.Native.Nat.{ℕ, ◌≤◌, ◌<◌}
use mathlib.Core.List.{List}
use mathlib.Core.Path.{◌≡◌}
use lib.ListN.{length}
use Rattle.equivalence.specs.Equivalence.{byte}

-- the names of f below x are among the first k bytes, which are below x; the slice has as many bytes as before
pub record Listed (x room : ℕ) (f : ℕ → ℕ) (bytes : List ℕ) (k : ℕ) : Type 0 where
  pub long : length bytes ≡ room
  pub most : k ≤ x
  pub small : (i : ℕ) → i < k → byte bytes i < x
  pub all : (z : ℕ) → z < x → f z ≡ z → (i : ℕ) × ((i < k) × (byte bytes i ≡ z))
