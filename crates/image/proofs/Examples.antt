-- The image, computed of the definitions.
use mathlib.Core.List.{List, [], ◌∷◌}
use mathlib.Core.Path.{◌≡◌, refl}
use lib.ListN.{length, get_or, take, drop, set, replicate}
use Rattle.equivalence.specs.Equivalence.{map_of, identity}
use Rattle.equivalence.specs.Lists.{up_to, first, concat}
use Rattle.equivalence.specs.Lent.{written}
use Rattle.sheet.specs.Sheet.{zero_point, zero_sheet, sheet_with}
use Rattle.sheet.specs.declared.Point.{Point}
use Rattle.sheet.specs.declared.Sheet.{Sheet}
use Rattle.benchsheets.specs.State.{eight_of, fresh_bench}
use Rattle.benchsheets.specs.declared.Bench.{Bench}
use Rattle.oldbenches.specs.declared.BenchV1.{BenchV1}
use Rattle.oldbenches.specs.declared.BenchV2.{BenchV2}
use Rattle.oldbenches.specs.declared.BenchV3.{BenchV3}
use Rattle.oldbenches.specs.declared.SheetV1.{SheetV1}
use Rattle.imagepart.specs.Parts.{little, point_bytes, points_bytes}
use Rattle.image.specs.Image.{layout, image_of, image_v3_of, image_v2_of, image_v1_of}

-- the point `ab` with the map 0 0 2
abbrev point : Point
point = record { name = written (97 ∷ 98 ∷ []) (replicate 8 0); map = written (0 ∷ 0 ∷ 2 ∷ []) (replicate 64 0) }

-- sheet 2 of the sample: tally 259 and two points, this one in place 1
abbrev pointed : Sheet
pointed = record { map = replicate 64 1; tally = 259; count = 2; points = set (replicate 8 zero_point) 1 point }

-- a fresh bench over 3 but for sheet 2 and 258 blocks lost earlier
abbrev sample : Bench
sample = record { n = 3; earlier = 258; sheets = set (fresh_bench 3).sheets 2 pointed }

-- benches of older kinds over 3 with tally 258; on all sheets of the third kind two points
abbrev sample_v3 : BenchV3
sample_v3 =
    record { n = 3; tally = 258; sheets = replicate 8 (record { map = replicate 64 1; count = 2; points = set (replicate 8 zero_point) 1 point }) }

abbrev old : List SheetV1
old = replicate 8 (record { map = written (identity 3) (replicate 64 0) })

abbrev sample_v2 : BenchV2
sample_v2 = record { n = 3; tally = 258; sheets = old }

abbrev sample_v1 : BenchV1
sample_v1 = record { n = 3; tally = 258; sheets = old }

pub record ImageExamples : Type 0 where
  -- sheet 1 begins at byte 64, n is byte 512; the tally of sheet 2 begins at byte 513 + 2 * 8, and behind all tallies stands what was lost earlier
  pub sheet : take 4 (drop 64 (image_of sample)) ≡ 0 ∷ 1 ∷ 2 ∷ 0 ∷ []
  pub size : get_or (image_of sample) 512 0 ≡ 3
  pub tally : take 10 (drop 528 (image_of sample)) ≡ 0 ∷ 3 ∷ 1 ∷ 0 ∷ 0 ∷ 0 ∷ 0 ∷ 0 ∷ 0 ∷ 0 ∷ []
  pub earlier : take 8 (drop 577 (image_of sample)) ≡ 2 ∷ 1 ∷ 0 ∷ 0 ∷ 0 ∷ 0 ∷ 0 ∷ 0 ∷ []
  -- the points of sheet 2 begin at byte 585 + 2 * 577 with their count, and place 1 at byte 1740 + 72, with its name and its map
  pub count : get_or (image_of sample) 1739 0 ≡ 2
  pub name : take 8 (drop 1812 (image_of sample)) ≡ 97 ∷ 98 ∷ 0 ∷ 0 ∷ 0 ∷ 0 ∷ 0 ∷ 0 ∷ []
  pub map : take 4 (drop 1820 (image_of sample)) ≡ 0 ∷ 0 ∷ 2 ∷ 0 ∷ []
  pub whole : length (image_of sample) ≡ 5201
  -- of the third kind the tally has eight bytes, and the points of sheet 2 begin at byte 521 + 2 * 577
  pub third : take 8 (drop 513 (image_v3_of sample_v3)) ≡ 2 ∷ 1 ∷ 0 ∷ 0 ∷ 0 ∷ 0 ∷ 0 ∷ 0 ∷ []
  pub third_count : get_or (image_v3_of sample_v3) 1675 0 ≡ 2
  pub third_name : take 8 (drop 1748 (image_v3_of sample_v3)) ≡ 97 ∷ 98 ∷ 0 ∷ 0 ∷ 0 ∷ 0 ∷ 0 ∷ 0 ∷ []
  pub third_whole : length (image_v3_of sample_v3) ≡ 5137
  -- the tally ends the image of a bench of the second kind, in eight bytes; in four of the first
  pub second : drop 513 (image_v2_of sample_v2) ≡ 2 ∷ 1 ∷ 0 ∷ 0 ∷ 0 ∷ 0 ∷ 0 ∷ 0 ∷ []
  pub first : drop 513 (image_v1_of sample_v1) ≡ 2 ∷ 1 ∷ 0 ∷ 0 ∷ []

pub image_examples : ImageExamples
unfolding up_to first concat map_of identity written zero_point zero_sheet sheet_with eight_of fresh_bench
    little point_bytes points_bytes layout image_of image_v3_of image_v2_of image_v1_of
image_examples =
    record {
      sheet = refl;
      size = refl;
      tally = refl;
      earlier = refl;
      count = refl;
      name = refl;
      map = refl;
      whole = refl;
      third = refl;
      third_count = refl;
      third_name = refl;
      third_whole = refl;
      second = refl;
      first = refl;
    }
