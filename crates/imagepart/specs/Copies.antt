-- Bytes copied to the start of lent ones.
use Rattle.std.specs.Prelude.{ℕ, List, length, take}
use Rattle.equivalence.specs.Lent.{written}

-- the lent bytes with a copy of the part at their start, as far as it fits
unfoldable pub copied : List ℕ → List ℕ → List ℕ
copied part lent = written (take (length lent) part) lent
