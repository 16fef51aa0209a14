-- The order of pairs, the places of pairs in it, and which of two equivalences is the earlier.
use Rattle.std.specs.Prelude.{ℕ, zero, suc, ◌+◌, ◌-◌, Bool, true, false, not, ◌&&◌, ◌||◌, List, [], ◌∷◌, map, ltb, Option, Some, None}
use Rattle.equivalence.specs.Lists.{up_to, keep, first, concat}
use Rattle.equivalence.specs.Equivalence.{Map, holds}

-- two elements
abbrev pub Pair : Type 0
Pair = ℕ × ℕ

-- the pairs (x, y) with x < y, by x and then by y
unfoldable pub pairs : ℕ → List Pair
pairs n = concat (map (λ x. map (λ y. (x, y)) (keep (ltb x) (up_to n))) (up_to n))

-- a is b, or holds the first of these pairs that lies in just one of the two
unfoldable pub not_later_on : List Pair → Map → Map → Bool
not_later_on [] a b = true
not_later_on (p ∷ rest) a b =
    elim (holds a p.0 p.1) [
      | true ↦ not (holds b p.0 p.1) || not_later_on rest a b
      | false ↦ not (holds b p.0 p.1) && not_later_on rest a b
    ]

-- a is b, or the earlier of the two
unfoldable pub not_later : ℕ → Map → Map → Bool
not_later n a b = not_later_on (pairs n) a b

-- the first pair that m holds; (0, 0) where it holds none
unfoldable pub first_held : ℕ → Map → Pair
first_held n m = first (λ p. holds m p.0 p.1) (0, 0) (pairs n)

-- the number of pairs of n elements in the rows before x: row i has n - 1 - i pairs
abbrev pub pairs_before : ℕ → ℕ → ℕ
pairs_before n zero = 0
pairs_before n (suc x) = pairs_before n x + (n - 1 - x)

-- the number of pairs in the rows before x when n = 64
unfoldable pub row_start : ℕ → ℕ
row_start x = pairs_before 64 x

-- the place of (x, y) among the pairs of 64 elements; none where x < y < 64 fails
unfoldable pub place_of : ℕ → ℕ → Option ℕ
place_of x y = elim (ltb x y && ltb y 64) [ true ↦ Some (row_start x + y - x - 1) | false ↦ None ]
