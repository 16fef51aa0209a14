-- The places of pairs: the formula for the pairs in the rows before one, and that a place is the pair's index in the list of pairs.
use Prim.Native.Nat.{ℕ, zero, suc, ◌+◌, ◌*◌, ◌-◌, ◌/◌, ◌≤◌, ◌<◌}
use mathlib.Core.Bool.{◌&&◌}
use mathlib.Core.List.{List, [], ◌∷◌, ◌++◌, map, append-nil, map-append}
use mathlib.Core.Path.{◌≡◌, refl, sym, ap, ◌∙◌}
use native.Mathlib.Decide.{dec_lt}
use native.Mathlib.Nat.{le_of_lt, mul-suc, suc-mul, mul-le-mul, mul-div_cancel}
use native.Mathlib.Omega.{arith}
use lib.Dec.{ltb, ltb→lt, lt→ltb}
use lib.ListN.{length, get_or, length-append, length-map, get_or-append}
use lib.Seq.{get_or-append-add}
use mir.Syntax.{w64}
use mir.Val.{Fits}
use Rattle.equivalence.specs.Lists.{up_to, keep, concat}
use Rattle.pairorder.specs.Order.{Pair, pairs, pairs_before, row_start, place_of}
use Rattle.equivalence.proofs.Lists.{keep_yes, keep_no, keep_append, map_at, rank}
use Rattle.equivalence.proofs.Stretches.{concat_append}
use Rattle.equivalence.proofs.Tests.{both, left, right, pick_yes, pick_no}
use Rattle.std.specs.Prelude.{Some, None}

-- two bytes, multiplied; whichever they are, so that a wrong formula for a row's start is refused by what it gives and not here
pub product_fits : {x y : ℕ} → x < 256 → y < 256 → Fits w64 (x * y)
product_fits l k = omega (arith, mul-le-mul {n₂ = 256} {m₂ = 256} (le_of_lt l) (le_of_lt k))

-- ---- the pairs in the rows before x

module _ (n : ℕ) where
  pub pairs_before_bound : (x : ℕ) → pairs_before n x ≤ x * n
  pairs_before_bound zero = omega arith
  pairs_before_bound (suc x) = omega (arith, pairs_before_bound x, suc-mul x n)

  -- the sum of n - 1, n - 2, .., n - x, twice
  twice : (x : ℕ) → x ≤ n → pairs_before n x * 2 ≡ x * (2 * n - 1 - x)
  twice zero l = omega arith
  twice (suc x) l =
      let k = 2 * n - 1 - suc x in
      let e : 2 * n - 1 - x ≡ suc k = omega arith in
      omega (arith, twice x (omega arith) ∙ ap (λ (z : ℕ). x * z) e ∙ mul-suc x k, suc-mul x k)

  pub pairs_before_formula : (x : ℕ) → x ≤ n → x * (2 * n - 1 - x) / 2 ≡ pairs_before n x
  pairs_before_formula x l = ap (λ (k : ℕ). k / 2) (sym (twice x l)) ∙ mul-div_cancel (pairs_before n x) (omega arith)

-- ---- the answers

-- the place that the row starts give
abbrev pub place_in : ℕ → ℕ → ℕ
place_in x y = row_start x + y - x - 1

pub place_of_at : (x y : ℕ) → x < y → y < 64 → place_of x y ≡ Some (place_in x y)
unfolding place_of
place_of_at x y l k = pick_yes (ltb x y && ltb y 64) (Some (place_in x y)) None (both (ltb x y) (ltb y 64) (lt→ltb x y l) (lt→ltb y 64 k))

pub place_of_unordered : (x y : ℕ) → y ≤ x → place_of x y ≡ None
unfolding place_of
place_of_unordered x y l = pick_no (ltb x y && ltb y 64) (Some (place_in x y)) None (λ t. omega (arith, ltb→lt x y (left (ltb x y) (ltb y 64) t)))

pub place_of_large : (x y : ℕ) → 64 ≤ y → place_of x y ≡ None
unfolding place_of
place_of_large x y l = pick_no (ltb x y && ltb y 64) (Some (place_in x y)) None (λ t. omega (arith, ltb→lt y 64 (right (ltb x y) (ltb y 64) t)))

-- ---- the place is the pair's index in the list of pairs

larger_count : (x n : ℕ) → length (keep (ltb x) (up_to n)) ≡ n - 1 - x
unfolding up_to keep
larger_count x zero = omega arith
larger_count x (suc n) =
    rw (keep_append (ltb x) (up_to n) (n ∷ []))
    (elim (dec_lt x n) [
      | yes l ↦ rw (keep_yes (ltb x) n [] (lt→ltb x n l)) (omega (arith, length-append (keep (ltb x) (up_to n)) (n ∷ keep (ltb x) []), larger_count x n))
      | no g ↦ rw (keep_no (ltb x) n [] (λ t. g (ltb→lt x n t))) (omega (arith, length-append (keep (ltb x) (up_to n)) (keep (ltb x) []), larger_count x n))
    ])

module _ (n : ℕ) where
  -- the pairs of row x
  abbrev row : ℕ → List Pair
  row x = map (λ y. (x, y)) (keep (ltb x) (up_to n))

  -- the pairs of the rows before x
  abbrev rows : ℕ → List Pair
  rows x = concat (map row (up_to x))

  row_length : (x : ℕ) → length (row x) ≡ n - 1 - x
  row_length x = length-map (keep (ltb x) (up_to n)) (λ y. (x, y)) ∙ larger_count x n

  row_at : (x y : ℕ) → x < y → y < n → get_or (row x) (y - 1 - x) (0, 0) ≡ (x, y)
  row_at x y l k =
      let r = rank (ltb x) n y k (lt→ltb x y l) in
      rw (← larger_count x y) (map_at (λ y. (x, y)) (keep (ltb x) (up_to n)) (length (keep (ltb x) (up_to y))) 0 (0, 0) r.0 ∙ ap (λ (z : ℕ). (x, z)) r.1)

  rows_next : (x : ℕ) → rows (suc x) ≡ rows x ++ row x
  unfolding up_to concat
  rows_next x = ap concat (map-append row (up_to x) (x ∷ [])) ∙ concat_append (map row (up_to x)) (row x ∷ []) ∙ ap (λ (l : List Pair). rows x ++ l) (append-nil (row x))

  rows_length : (x : ℕ) → length (rows x) ≡ pairs_before n x
  unfolding up_to concat
  rows_length zero = refl
  rows_length (suc x) = ap length (rows_next x) ∙ omega (arith, length-append (rows x) (row x), rows_length x, row_length x)

  -- behind the rows before x stands row x, whatever rows follow it
  rows_at : (m x i : ℕ) → x < m → i < n - 1 - x → (pairs_before n x + i < length (rows m)) × (get_or (rows m) (pairs_before n x + i) (0, 0) ≡ get_or (row x) i (0, 0))
  rows_at zero x i l k = absurd (omega arith)
  rows_at (suc m) x i l k =
      rw (rows_next m)
      (elim (dec_lt x m) [
        | yes h ↦ let r = rows_at m x i h k in
            (omega (arith, r.0, length-append (rows m) (row m)), get_or-append (rows m) (row m) (0, 0) (pairs_before n x + i) r.0 ∙ r.1)
        | no h ↦ let e : x ≡ m = omega arith in
            rw (e, ← rows_length m) (omega (arith, length-append (rows m) (row m), row_length m), get_or-append-add (rows m) (row m) i (0, 0))
      ])

  pub pair_at : (x y : ℕ) → x < y → y < n → (pairs_before n x + y - x - 1 < length (pairs n)) × (get_or (pairs n) (pairs_before n x + y - x - 1) (0, 0) ≡ (x, y))
  unfolding pairs
  pair_at x y l k =
      let r = rows_at n x (y - 1 - x) (omega arith) (omega arith) in
      let e : pairs_before n x + y - x - 1 ≡ pairs_before n x + (y - 1 - x) = omega arith in
      rw e (r.0, r.1 ∙ row_at x y l k)

pub place_index : (x y k : ℕ) → place_of x y ≡ Some k → (k < length (pairs 64)) × (get_or (pairs 64) k (0, 0) ≡ (x, y))
unfolding row_start
place_index x y k e =
    elim (dec_lt x y) [
      | yes l ↦ elim (dec_lt y 64) [
        | yes h ↦
            let p : k ≡ place_in x y = same (sym e ∙ place_of_at x y l h) in
            rw p (pair_at 64 x y l h)
        | no h ↦ absurd (never (sym (place_of_large x y (omega arith)) ∙ e))
      ]
      | no l ↦ absurd (never (sym (place_of_unordered x y (omega arith)) ∙ e))
    ]
  where
    same : {i j : ℕ} → Some i ≡ Some j → i ≡ j
    same f = cc

    never : {j : ℕ} → None ≡ Some j → ⊥
    never f = cc
