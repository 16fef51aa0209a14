-- A bench as bytes, its image. In front, in every kind: eight maps of 64 bytes, and the bench's n in one byte. Then, of the first three kinds, the tally:
-- in four bytes of the first, in eight of the other two; of today's kind a tally of eight bytes for each sheet, and what was lost earlier in eight. Then, of
-- the third kind and of today's, the points of each sheet.
use Rattle.std.specs.Prelude.{ℕ, ◌+◌, ◌*◌, ◌^◌, ◌<◌, List, ◌++◌, map, ◌≡◌, get_or}
use Rattle.equivalence.specs.Equivalence.{Map}
use Rattle.equivalence.specs.Lists.{up_to, concat}
use Rattle.sheet.specs.Sheet.{no_sheet}
use Rattle.sheet.specs.declared.Sheet.{Sheet}
use Rattle.benchsheets.specs.declared.Bench.{Bench}
use Rattle.oldbenches.specs.OldKinds.{no_sheet_v3}
use Rattle.oldbenches.specs.declared.BenchV1.{BenchV1}
use Rattle.oldbenches.specs.declared.BenchV2.{BenchV2}
use Rattle.oldbenches.specs.declared.BenchV3.{BenchV3}
use Rattle.oldbenches.specs.declared.SheetV1.{SheetV1}
use Rattle.oldbenches.specs.declared.SheetV3.{SheetV3}
use Rattle.imagepart.specs.Parts.{little, little_in, part, points_bytes, map_in, places_in, Eight, PointsShowable}

-- ---- the image of a bench

-- the front of the first three kinds: maps one after the other, n in one byte, and the tally in k
unfoldable pub layout : ℕ → List Map → ℕ → ℕ → List ℕ
layout k maps n tally = concat maps ++ little 1 n ++ little k tally

-- the maps of sheets
abbrev pub maps_of : List Sheet → List Map
maps_of sheets = map (λ s. s.map) sheets

-- the maps of sheets of the third kind
abbrev pub maps_v3_of : List SheetV3 → List Map
maps_v3_of sheets = map (λ s. s.map) sheets

-- the maps of sheets of the first two kinds
abbrev pub maps_v1_of : List SheetV1 → List Map
maps_v1_of sheets = map (λ s. s.map) sheets

-- the tallies of sheets, eight bytes each
abbrev pub tallies_of : List Sheet → List ℕ
tallies_of sheets = concat (map (λ s. little 8 s.tally) sheets)

-- the points of sheets
abbrev pub points_of : List Sheet → List ℕ
points_of sheets = concat (map (λ s. points_bytes s.count s.points) sheets)

-- the points of sheets of the third kind
abbrev pub points_v3_of : List SheetV3 → List ℕ
points_v3_of sheets = concat (map (λ s. points_bytes s.count s.points) sheets)

-- the image of a bench: maps, n, tallies, what was lost earlier, points; 5201 bytes
unfoldable pub image_of : Bench → List ℕ
image_of b = concat (maps_of b.sheets) ++ little 1 b.n ++ tallies_of b.sheets ++ little 8 b.earlier ++ points_of b.sheets

-- the image of a bench of the third kind: the front, 521 bytes, then the points of its sheets; 5137 bytes
unfoldable pub image_v3_of : BenchV3 → List ℕ
image_v3_of b = layout 8 (maps_v3_of b.sheets) b.n b.tally ++ points_v3_of b.sheets

-- the image of a bench of the second kind: 521 bytes
unfoldable pub image_v2_of : BenchV2 → List ℕ
image_v2_of b = layout 8 (maps_v1_of b.sheets) b.n b.tally

-- the image of a bench of the first kind: 517 bytes
unfoldable pub image_v1_of : BenchV1 → List ℕ
image_v1_of b = layout 4 (maps_v1_of b.sheets) b.n b.tally

-- ---- the bench that an image shows

-- the n
unfoldable pub size_in : List ℕ → ℕ
size_in image = little_in (part 512 1 image)

-- the tally of k bytes
unfoldable pub tally_in : ℕ → List ℕ → ℕ
tally_in k image = little_in (part 513 k image)

-- the tally of sheet s
unfoldable pub sheet_tally_in : List ℕ → ℕ → ℕ
sheet_tally_in image s = little_in (part (513 + s * 8) 8 image)

-- what was lost earlier
unfoldable pub earlier_in : List ℕ → ℕ
earlier_in image = little_in (part 577 8 image)

-- sheet s of the third kind, where the points of the sheets begin at byte `from`
unfoldable pub sheet_v3_in : ℕ → List ℕ → ℕ → SheetV3
sheet_v3_in from image s =
    record { map = map_in image s; count = little_in (part (from + s * 577) 1 image); points = places_in image (from + s * 577 + 1) }

-- a sheet of the third kind with a tally
unfoldable pub tallied : ℕ → SheetV3 → Sheet
tallied t s = record { map = s.map; tally = t; count = s.count; points = s.points }

-- sheet s
unfoldable pub sheet_in : List ℕ → ℕ → Sheet
sheet_in image s = tallied (sheet_tally_in image s) (sheet_v3_in 585 image s)

-- sheet s of the first two kinds
unfoldable pub sheet_v1_in : List ℕ → ℕ → SheetV1
sheet_v1_in image s = record { map = map_in image s }

-- the bench
unfoldable pub bench_in : List ℕ → Bench
bench_in image = record { n = size_in image; earlier = earlier_in image; sheets = map (sheet_in image) (up_to 8) }

-- the bench of the third kind
unfoldable pub bench_v3_in : List ℕ → BenchV3
bench_v3_in image = record { n = size_in image; tally = tally_in 8 image; sheets = map (sheet_v3_in 521 image) (up_to 8) }

-- the bench of the second kind
unfoldable pub bench_v2_in : List ℕ → BenchV2
bench_v2_in image = record { n = size_in image; tally = tally_in 8 image; sheets = map (sheet_v1_in image) (up_to 8) }

-- the bench of the first kind
unfoldable pub bench_v1_in : List ℕ → BenchV1
bench_v1_in image = record { n = size_in image; tally = tally_in 4 image; sheets = map (sheet_v1_in image) (up_to 8) }

-- ---- that the one shows the other

-- eight maps of 64 bytes, an n that fits a byte, and a total t that fits k
pub record Showable (k : ℕ) (maps : List Map) (n t : ℕ) : Type 0 where
  pub size : n < 256
  pub total : t < 256 ^ k
  pub whole : Eight 64 maps

-- a tally that fits eight bytes, and points that can be shown
pub record SheetShowable (s : Sheet) : Type 0 where
  pub tally : s.tally < 256 ^ 8
  pub points : PointsShowable s.count s.points

-- the image of a bench of any kind shows it
pub record ImageRight : Type 0 where
  pub bench : (b : Bench) → Showable 8 (maps_of b.sheets) b.n b.earlier → ((s : ℕ) → s < 8 → SheetShowable (get_or b.sheets s no_sheet))
      → bench_in (image_of b) ≡ b
  pub third : (b : BenchV3) → Showable 8 (maps_v3_of b.sheets) b.n b.tally
      → ((s : ℕ) → s < 8 → PointsShowable (get_or b.sheets s no_sheet_v3).count (get_or b.sheets s no_sheet_v3).points) → bench_v3_in (image_v3_of b) ≡ b
  pub second : (b : BenchV2) → Showable 8 (maps_v1_of b.sheets) b.n b.tally → bench_v2_in (image_v2_of b) ≡ b
  pub first : (b : BenchV1) → Showable 4 (maps_v1_of b.sheets) b.n b.tally → bench_v1_in (image_v1_of b) ≡ b
