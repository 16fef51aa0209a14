-- The number of a place.
use Rattle.std.specs.Prelude.{ℕ, Option, Some, None}

-- a place, or 65,535 for none
unfoldable pub place_number : Option ℕ → ℕ
place_number (Some place) = place
place_number None = 65535
