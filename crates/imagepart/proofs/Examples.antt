-- Parts of an image, computed of the definitions.
use mathlib.Core.List.{[], ◌∷◌}
use mathlib.Core.Path.{◌≡◌, refl}
use lib.ListN.{length, get_or, take, drop, set, replicate}
use Rattle.equivalence.specs.Lists.{concat}
use Rattle.equivalence.specs.Lent.{written}
use Rattle.sheet.specs.Sheet.{zero_point}
use Rattle.sheet.specs.declared.Point.{Point}
use Rattle.imagepart.specs.Parts.{little, little_in, point_bytes, points_bytes}

-- the point `ab` with the map 0 0 2
abbrev point : Point
point = record { name = written (97 ∷ 98 ∷ []) (replicate 8 0); map = written (0 ∷ 0 ∷ 2 ∷ []) (replicate 64 0) }

pub record PartExamples : Type 0 where
  -- 258 is 2 and 1 times 256
  pub number : (little 4 258 ≡ 2 ∷ 1 ∷ 0 ∷ 0 ∷ []) × (little_in (2 ∷ 1 ∷ 0 ∷ 0 ∷ []) ≡ 258)
  -- of two points the count is byte 0, and the place of the second begins at byte 1 + 72, with its name
  pub count : get_or (points_bytes 2 (set (replicate 8 zero_point) 1 point)) 0 0 ≡ 2
  pub name : take 8 (drop 73 (points_bytes 2 (set (replicate 8 zero_point) 1 point))) ≡ 97 ∷ 98 ∷ 0 ∷ 0 ∷ 0 ∷ 0 ∷ 0 ∷ 0 ∷ []
  pub whole : length (points_bytes 2 (set (replicate 8 zero_point) 1 point)) ≡ 577

pub part_examples : PartExamples
unfolding concat written zero_point little little_in point_bytes points_bytes
part_examples = record { number = (refl, refl); count = refl; name = refl; whole = refl }
