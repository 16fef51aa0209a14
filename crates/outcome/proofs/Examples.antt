-- The numbers of the first pair's place and of no place, computed of the definitions.
use mathlib.Core.Path.{◌≡◌, refl}
use Rattle.pairorder.specs.Order.{row_start, place_of}
use Rattle.outcome.specs.Places.{place_number}

pub place_examples : (place_number (place_of 0 1) ≡ 0) × (place_number (place_of 1 1) ≡ 65535)
unfolding row_start place_of place_number
place_examples = (refl, refl)
