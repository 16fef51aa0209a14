-- The tests of a call that is handed two maps: what they find, and what they leave where they pass.
use Prim.Native.Nat.{ℕ, ◌≤◌}
use mathlib.Core.Path.{◌≡◌}
use Rattle.equivalence.specs.Equivalence.{Map}
use Rattle.equivalence.specs.Refusal.{prefer_check}
use Rattle.equivalence.proofs.Maps.{IsMap}
use Rattle.equivalence.proofs.Refusals.{of_passed, of_size_test, of_map_test}
use Rattle.std.specs.Prelude.{Ok}

-- two maps over a number of elements
pub record TwoMaps (n : ℕ) (a b : Map) : Type 0 where
  pub some : 1 ≤ n
  pub small : n ≤ 64
  pub first : IsMap n a
  pub second : IsMap n b

pub of_prefer_check : (n : ℕ) (a b : Map) → prefer_check n a b ≡ Ok tt → TwoMaps n a b
unfolding prefer_check
of_prefer_check n a b e =
    let p = of_passed _ _ e in
    let q = of_passed _ _ p.1 in
    let r = of_passed _ _ q.1 in
    let size = of_size_test n p.0 in
    record { some = size.0; small = size.1; first = of_map_test n a q.0; second = of_map_test n b r.0 }
