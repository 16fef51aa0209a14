-- `place_number`: a place fits 32 bits.
use mathlib.Core.Path.{sym, ◌∙◌}
use native.Mathlib.Omega.{arith}
use Rattle.outcome.proofs.Places.{place_small}
use Rattle.outcome.proofs.place_number.Goals as goal

pub overflow_cast-result : goal.overflow_cast-result
overflow_cast-result c = omega (arith, place_small _ _ _ (sym c.pair_place-place.ensures ∙ c.in-Some.is))
