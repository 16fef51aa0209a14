-- Inner vocabulary: no contract of a service and no theorem cites this file.
-- When gathering is slow: by how many congruences there are, how many blocks their meet has, and how many trials there were.
use Rattle.std.specs.Prelude.{ℕ, ◌*◌, Bool, true, false, ltb}

-- so many congruences, two or more, have cut off little more than a block each: their meet has so many blocks
unfoldable pub cuts_little : ℕ → ℕ → Bool
cuts_little count blocks = elim (ltb count 2) [ true ↦ false | false ↦ ltb blocks (2 * count) ]

-- it is slow after few trials for each four congruences; where none are few, from the first
unfoldable pub is_slow : ℕ → ℕ → ℕ → ℕ → Bool
is_slow few count trials blocks = elim (ltb (4 * trials) (few * count)) [ true ↦ false | false ↦ cuts_little count blocks ]
