-- The places of pairs are below 2016, and two pairs have two places.
use Prim.Native.Nat.{ℕ, ◌<◌}
use mathlib.Core.Path.{◌≡◌, refl, sym, ap, ◌∙◌}
use native.Mathlib.Omega.{arith}
use lib.ListN.{length, get_or}
use Rattle.equivalence.specs.Lists.{up_to, keep, concat}
use Rattle.pairorder.specs.Order.{Pair, pairs, row_start}
use Rattle.pairorder.proofs.Places.{pair_at}
use Rattle.keeping.specs.InnerKeeping.{pair_place, PlaceOf}

pairs_count : length (pairs 64) ≡ 2016
unfolding pairs up_to keep concat
pairs_count = refl

pair_here : (x y : ℕ) → x < y → y < 64 → (pair_place x y < length (pairs 64)) × (get_or (pairs 64) (pair_place x y) (0, 0) ≡ (x, y))
unfolding row_start
pair_here x y l h = pair_at 64 x y l h

pub place_small : (x y : ℕ) → x < y → y < 64 → pair_place x y < 2016
place_small x y l h = omega (arith, (pair_here x y l h).0, pairs_count)

pub place_of : {x y p : ℕ} → x < y → y < 64 → p ≡ pair_place x y → PlaceOf x y p
place_of {x} {y} l h e = record { same = e; small = omega (arith, place_small x y l h) }

pub place_once : {x y u v : ℕ} → x < y → y < 64 → u < v → v < 64 → pair_place u v ≡ pair_place x y → (u ≡ x) × (v ≡ y)
place_once {x} {y} {u} {v} l h k i e =
    let same : ◌≡◌ {A = Pair} (u, v) (x, y) = sym (pair_here u v k i).1 ∙ ap (λ (p : ℕ). get_or (pairs 64) p (0, 0)) e ∙ (pair_here x y l h).1 in
    (ap (λ (p : Pair). p.0) same, ap (λ (p : Pair). p.1) same)
