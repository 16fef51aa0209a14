-- Numbers as they are written: in base ten, without leading zeros, whatever their size.
use Rattle.std.specs.Prelude.{ℕ, zero, suc, ◌+◌, ◌/◌, ◌%◌, true, false, List, [], ◌∷◌, ◌++◌, ltb}

-- the digits of a number of at most k digits, as bytes
unfoldable pub digits : ℕ → ℕ → List ℕ
digits zero v = []
digits (suc k) v = elim (ltb v 10) [ true ↦ (48 + v) ∷ [] | false ↦ digits k (v / 10) ++ ((48 + v % 10) ∷ []) ]

-- the bytes of a number; v has no more than v + 1 digits
unfoldable pub decimal : ℕ → List ℕ
decimal v = digits (suc v) v
