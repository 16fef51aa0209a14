-- The place of a pair is below 2,016.
use Prim.Native.Nat.{ℕ, ◌<◌}
use mathlib.Core.Path.{◌≡◌, refl}
use native.Mathlib.Omega.{arith}
use lib.ListN.{length}
use Rattle.equivalence.specs.Lists.{up_to, keep, concat}
use Rattle.pairorder.specs.Order.{pairs, place_of}
use Rattle.std.specs.Prelude.{Some}
use Rattle.pairorder.proofs.Places.{place_index}

pairs_count : length (pairs 64) ≡ 2016
unfolding pairs up_to keep concat
pairs_count = refl

pub place_small : (x y place : ℕ) → place_of x y ≡ Some place → place < 2016
place_small x y place e = omega (arith, (place_index x y place e).0, pairs_count)
