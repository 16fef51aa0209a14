-- The image of a bench, part by part: the parts written one after the other; and that a bench whose numbers fit is shown by its image.
use Prim.Native.Nat.{ℕ, ◌+◌, ◌*◌, ◌≤◌, ◌<◌}
use mathlib.Core.List.{List, [], ◌++◌, map, map-map, append_assoc, append-nil}
use mathlib.Core.Path.{◌≡◌, refl, sym, ap, ◌∙◌}
use native.Mathlib.Omega.{arith}
use lib.ListN.{length, get_or, length-append, length-map, get_or-map}
use Rattle.sheet.specs.Sheet.{no_sheet}
use Rattle.sheet.specs.declared.Sheet.{Sheet}
use Rattle.benchsheets.specs.declared.Bench.{Bench}
use Rattle.oldbenches.specs.OldKinds.{no_sheet_v1, no_sheet_v3}
use Rattle.oldbenches.specs.declared.BenchV2.{BenchV2}
use Rattle.oldbenches.specs.declared.BenchV3.{BenchV3}
use Rattle.oldbenches.specs.declared.SheetV1.{SheetV1}
use Rattle.oldbenches.specs.declared.SheetV3.{SheetV3}
use Rattle.equivalence.specs.Equivalence.{Map}
use Rattle.equivalence.specs.Lists.{up_to, concat}
use Rattle.equivalence.proofs.Lists.{map_at}
use Rattle.imagepart.specs.Parts.{little, little_in, part, points_bytes, map_in, Eight, PointsShowable}
use Rattle.imagepart.specs.InnerSteps.{Laid}
use Rattle.imagepart.proofs.Littles.{little_length, little_in_little}
use Rattle.imagepart.proofs.Shown.{part_mid, eight_length, eight_at, eight_of_lem, eight_count, table_is, points_long, count_shown, places_shown}
use Rattle.imagepart.proofs.Steps.{laid_then, laid_whole}
use Rattle.image.specs.Image.{layout, maps_of, maps_v3_of, maps_v1_of, tallies_of, points_of, points_v3_of, image_of, image_v3_of, image_v2_of, image_v1_of}
use Rattle.image.specs.Image.{size_in, tally_in, sheet_tally_in, earlier_in, sheet_v3_in, tallied, sheet_in, sheet_v1_in, bench_in, bench_v3_in, bench_v2_in, bench_v1_in}
use Rattle.image.specs.Image.{Showable, SheetShowable, ImageRight}
use Rattle.image.specs.InnerSheets.{without_tally}

-- ---- sheets without their tallies

untold_points : (sheets : List Sheet) → points_v3_of (map without_tally sheets) ≡ points_of sheets
unfolding without_tally
untold_points sheets = ap concat (map-map (λ s. points_bytes s.count s.points) without_tally sheets)

untold_at : (sheets : List Sheet) (s : ℕ) → get_or (map without_tally sheets) s no_sheet_v3 ≡ without_tally (get_or sheets s no_sheet)
unfolding without_tally
untold_at sheets s = get_or-map without_tally sheets s no_sheet

-- ---- the image written

begun_written : (maps : List Map) (n : ℕ) (old begun sized : List ℕ) → 513 ≤ length old → Laid 512 (concat maps) 0 old begun → Laid 1 (little 1 n) 512 begun sized
    → Laid 513 (concat maps ++ little 1 n) 0 old sized
begun_written maps n old begun sized h l e = laid_then 512 1 0 (concat maps) (little 1 n) old begun sized l e (omega arith)

front_written : (k : ℕ) (maps : List Map) (n tally : ℕ) (old begun sized after : List ℕ) → 513 + k ≤ length old → Laid 512 (concat maps) 0 old begun
    → Laid 1 (little 1 n) 512 begun sized → Laid k (little k tally) 513 sized after → Laid (513 + k) (layout k maps n tally) 0 old after
unfolding layout
front_written k maps n tally old begun sized after h l e f =
    laid_then 513 k 0 (concat maps ++ little 1 n) (little k tally) old sized after (begun_written maps n old begun sized (omega arith) l e) f (omega arith)

pub image_written : (b : Bench) (written : List Map) (untold : List SheetV3) (old begun sized told ended after : List ℕ) → written ≡ maps_of b.sheets
    → untold ≡ map without_tally b.sheets → length old ≡ 5201 → Laid 512 (concat written) 0 old begun → Laid 1 (little 1 b.n) 512 begun sized → Laid 64 (tallies_of b.sheets) 513 sized told
    → Laid 8 (little 8 b.earlier) 577 told ended → Laid 4616 (points_v3_of untold) 585 ended after → after ≡ image_of b
unfolding image_of
image_written b written untold old begun sized told ended after d e long l m t f p =
    let sheets : List Sheet = b.sheets in
    let maps : Laid 512 (concat (maps_of sheets)) 0 old begun = rw d at l in
    let points : Laid 4616 (points_of sheets) 585 ended after = rw (e, untold_points sheets) at p in
    let front : List ℕ = concat (maps_of sheets) ++ little 1 b.n in
    let one = begun_written (maps_of sheets) b.n old begun sized (omega arith) maps m in
    let two = laid_then 513 64 0 front (tallies_of sheets) old sized told one t (omega arith) in
    let three = laid_then 577 8 0 (front ++ tallies_of sheets) (little 8 b.earlier) old told ended two f (omega arith) in
    let four = laid_then 585 4616 0 (front ++ tallies_of sheets ++ little 8 b.earlier) (points_of sheets) old ended after three points (omega arith) in
    laid_whole 5201 (front ++ tallies_of sheets ++ little 8 b.earlier ++ points_of sheets) old after four long

pub image_v3_written : (b : BenchV3) (maps : List Map) (old begun sized told after : List ℕ) → maps ≡ maps_v3_of b.sheets → length old ≡ 5137 → Laid 512 (concat maps) 0 old begun
    → Laid 1 (little 1 b.n) 512 begun sized → Laid 8 (little 8 b.tally) 513 sized told → Laid 4616 (points_v3_of b.sheets) 521 told after
    → after ≡ image_v3_of b
unfolding image_v3_of
image_v3_written b maps old begun sized told after d long l e f g =
    let front : List ℕ = layout 8 (maps_v3_of b.sheets) b.n b.tally in
    let points : List ℕ = points_v3_of b.sheets in
    let h = front_written 8 (maps_v3_of b.sheets) b.n b.tally old begun sized told (omega arith) (rw d at l) e f in
    laid_whole 5137 (front ++ points) old after (laid_then 521 4616 0 front points old told after h g (omega arith)) long

pub image_v2_written : (b : BenchV2) (maps : List Map) (old begun sized after : List ℕ) → maps ≡ maps_v1_of b.sheets → length old ≡ 521 → Laid 512 (concat maps) 0 old begun
    → Laid 1 (little 1 b.n) 512 begun sized → Laid 8 (little 8 b.tally) 513 sized after → after ≡ image_v2_of b
unfolding image_v2_of
image_v2_written b maps old begun sized after d long l e f =
    laid_whole 521 (image_v2_of b) old after (front_written 8 (maps_v1_of b.sheets) b.n b.tally old begun sized after (omega arith) (rw d at l) e f) long

-- ---- maps and n, which begin every image

module _ (k : ℕ) (maps : List Map) (n total : ℕ) (h : Showable k maps n total) where
  begun_long : length (concat maps ++ little 1 n) ≡ 513
  begun_long = omega (arith, length-append (concat maps) (little 1 n), eight_length 64 maps h.whole, little_length 1 n)

  begun_map : (rest : List ℕ) (s : ℕ) → s < 8 → map_in (concat maps ++ little 1 n ++ rest) s ≡ get_or maps s []
  unfolding map_in
  begun_map rest s l =
      ap (part (s * 64) 64) (append_assoc (concat maps) (little 1 n) rest)
      ∙ eight_at 64 [] maps (little 1 n ++ rest) (s * 64) 0 s refl (omega arith) h.whole l

  begun_size : (rest : List ℕ) → size_in (concat maps ++ little 1 n ++ rest) ≡ n
  unfolding size_in
  begun_size rest =
      ap little_in (part_mid (concat maps) (little 1 n) rest 512 1 (eight_length 64 maps h.whole) (little_length 1 n)) ∙ little_in_little 1 n h.size

-- ---- the front of the first three kinds

module _ (k : ℕ) (maps : List Map) (n tally : ℕ) (h : Showable k maps n tally) (rest : List ℕ) where
  front_long : length (layout k maps n tally) ≡ 513 + k
  unfolding layout
  front_long = omega (arith, length-append (concat maps ++ little 1 n) (little k tally), begun_long k maps n tally h, little_length k tally)

  behind : layout k maps n tally ++ rest ≡ concat maps ++ little 1 n ++ (little k tally ++ rest)
  unfolding layout
  behind = append_assoc (concat maps ++ little 1 n) (little k tally) rest

  front_map : (s : ℕ) → s < 8 → map_in (layout k maps n tally ++ rest) s ≡ get_or maps s []
  front_map s l = ap (λ (image : List ℕ). map_in image s) behind ∙ begun_map k maps n tally h (little k tally ++ rest) s l

  front_size : size_in (layout k maps n tally ++ rest) ≡ n
  front_size = ap size_in behind ∙ begun_size k maps n tally h (little k tally ++ rest)

  front_tally : tally_in k (layout k maps n tally ++ rest) ≡ tally
  unfolding tally_in layout
  front_tally =
      ap little_in (part_mid (concat maps ++ little 1 n) (little k tally) rest 513 k (begun_long k maps n tally h) (little_length k tally))
      ∙ little_in_little k tally h.total

abbrev sheet_v1_with : List ℕ → SheetV1
sheet_v1_with m = record { map = m }

-- the first two kinds: nothing is behind the front
module _ (k : ℕ) (sheets : List SheetV1) (n tally : ℕ) (h : Showable k (maps_v1_of sheets) n tally) where
  alone : layout k (maps_v1_of sheets) n tally ++ [] ≡ layout k (maps_v1_of sheets) n tally
  alone = append-nil (layout k (maps_v1_of sheets) n tally)

  old_sheets_lem : map (sheet_v1_in (layout k (maps_v1_of sheets) n tally)) (up_to 8) ≡ sheets
  unfolding sheet_v1_in
  old_sheets_lem =
      table_is (sheet_v1_in (layout k (maps_v1_of sheets) n tally)) sheets no_sheet_v1 (eight_count 64 (λ t. t.map) sheets no_sheet_v1 h.whole)
      (λ s l.
      let e : map_in (layout k (maps_v1_of sheets) n tally) s ≡ (get_or sheets s no_sheet_v1).map =
      rw alone at (front_map k (maps_v1_of sheets) n tally h [] s l) ∙ get_or-map (λ t. t.map) sheets s no_sheet_v1 in
      ap sheet_v1_with e)

  old_size : size_in (layout k (maps_v1_of sheets) n tally) ≡ n
  old_size = rw alone at (front_size k (maps_v1_of sheets) n tally h [])

  old_tally : tally_in k (layout k (maps_v1_of sheets) n tally) ≡ tally
  old_tally = rw alone at (front_tally k (maps_v1_of sheets) n tally h [])

-- ---- the points, which end an image

abbrev points_in : SheetV3 → List ℕ
points_in s = points_bytes s.count s.points

module _ (front : List ℕ) (from : ℕ) (sheets : List SheetV3) (long : length front ≡ from) (eight : length sheets ≡ 8)
    (p : (s : ℕ) → s < 8 → PointsShowable (get_or sheets s no_sheet_v3).count (get_or sheets s no_sheet_v3).points) where
  points_at : (s : ℕ) → s < 8 → part (from + s * 577) 577 (front ++ points_v3_of sheets) ≡ points_in (get_or sheets s no_sheet_v3)
  points_at s l =
      let full : Eight 577 (map points_in sheets) =
      eight_of_lem 577 points_in sheets no_sheet_v3 eight (λ t o. points_long (get_or sheets t no_sheet_v3).count (get_or sheets t no_sheet_v3).points (p t o)) in
      ap (part (from + s * 577) 577) (sym (append-nil (front ++ points_v3_of sheets)))
      ∙ eight_at 577 front (map points_in sheets) [] (from + s * 577) from s long refl full l
      ∙ map_at points_in sheets s no_sheet_v3 [] (omega arith)

  sheet_at : (s : ℕ) → s < 8 → map_in (front ++ points_v3_of sheets) s ≡ (get_or sheets s no_sheet_v3).map
      → sheet_v3_in from (front ++ points_v3_of sheets) s ≡ get_or sheets s no_sheet_v3
  unfolding sheet_v3_in
  sheet_at s l e =
      let t : SheetV3 = get_or sheets s no_sheet_v3 in
      let image : List ℕ = front ++ points_v3_of sheets in
      let at : ℕ = from + s * 577 in
      rw (e, count_shown t.count t.points (p s l) image at (points_at s l), places_shown t.count t.points (p s l) image at (points_at s l)) refl

-- ---- the third kind

module _ (b : BenchV3) (h : Showable 8 (maps_v3_of b.sheets) b.n b.tally)
    (p : (s : ℕ) → s < 8 → PointsShowable (get_or b.sheets s no_sheet_v3).count (get_or b.sheets s no_sheet_v3).points) where
  third_eight : length b.sheets ≡ 8
  third_eight = eight_count 64 (λ t. t.map) b.sheets no_sheet_v3 h.whole

  third_sheet : (s : ℕ) → s < 8 → sheet_v3_in 521 (image_v3_of b) s ≡ get_or b.sheets s no_sheet_v3
  unfolding image_v3_of
  third_sheet s l =
      sheet_at (layout 8 (maps_v3_of b.sheets) b.n b.tally) 521 b.sheets (front_long 8 (maps_v3_of b.sheets) b.n b.tally h []) third_eight p s l
      (front_map 8 (maps_v3_of b.sheets) b.n b.tally h (points_v3_of b.sheets) s l ∙ get_or-map (λ t. t.map) b.sheets s no_sheet_v3)

  third_shown : bench_v3_in (image_v3_of b) ≡ b
  unfolding bench_v3_in image_v3_of
  third_shown =
      let points : List ℕ = points_v3_of b.sheets in
      rw (
        table_is (sheet_v3_in 521 (image_v3_of b)) b.sheets no_sheet_v3 third_eight third_sheet,
        front_size 8 (maps_v3_of b.sheets) b.n b.tally h points,
        front_tally 8 (maps_v3_of b.sheets) b.n b.tally h points,
      ) refl

-- ---- today's bench

abbrev begun_of : Bench → List ℕ
begun_of b = concat (maps_of b.sheets) ++ little 1 b.n

abbrev tally_bytes : Sheet → List ℕ
tally_bytes s = little 8 s.tally

module _ (b : Bench) (h : Showable 8 (maps_of b.sheets) b.n b.earlier) (p : (s : ℕ) → s < 8 → SheetShowable (get_or b.sheets s no_sheet)) where
  sheets_eight : length b.sheets ≡ 8
  sheets_eight = eight_count 64 (λ t. t.map) b.sheets no_sheet h.whole

  tallies_full : Eight 8 (map tally_bytes b.sheets)
  tallies_full = eight_of_lem 8 tally_bytes b.sheets no_sheet sheets_eight (λ s l. little_length 8 (get_or b.sheets s no_sheet).tally)

  told_long : length (begun_of b ++ tallies_of b.sheets) ≡ 577
  told_long =
      omega (arith, length-append (begun_of b) (tallies_of b.sheets), begun_long 8 (maps_of b.sheets) b.n b.earlier h, eight_length 8 (map tally_bytes b.sheets) tallies_full)

  ended_long : length (begun_of b ++ tallies_of b.sheets ++ little 8 b.earlier) ≡ 585
  ended_long = omega (arith, length-append (begun_of b ++ tallies_of b.sheets) (little 8 b.earlier), told_long, little_length 8 b.earlier)

  -- the image cut behind the tallies, and behind n
  image_told : image_of b ≡ begun_of b ++ tallies_of b.sheets ++ (little 8 b.earlier ++ points_of b.sheets)
  unfolding image_of
  image_told = append_assoc (begun_of b ++ tallies_of b.sheets) (little 8 b.earlier) (points_of b.sheets)

  image_begun : image_of b ≡ begun_of b ++ (tallies_of b.sheets ++ (little 8 b.earlier ++ points_of b.sheets))
  image_begun = image_told ∙ append_assoc (begun_of b) (tallies_of b.sheets) (little 8 b.earlier ++ points_of b.sheets)

  size_shown : size_in (image_of b) ≡ b.n
  size_shown =
      ap size_in image_begun
      ∙ begun_size 8 (maps_of b.sheets) b.n b.earlier h (tallies_of b.sheets ++ (little 8 b.earlier ++ points_of b.sheets))

  map_shown : (s : ℕ) → s < 8 → map_in (image_of b) s ≡ (get_or b.sheets s no_sheet).map
  map_shown s l =
      ap (λ (image : List ℕ). map_in image s) image_begun
      ∙ begun_map 8 (maps_of b.sheets) b.n b.earlier h (tallies_of b.sheets ++ (little 8 b.earlier ++ points_of b.sheets)) s l
      ∙ get_or-map (λ t. t.map) b.sheets s no_sheet

  earlier_shown : earlier_in (image_of b) ≡ b.earlier
  unfolding earlier_in image_of
  earlier_shown =
      ap little_in (part_mid (begun_of b ++ tallies_of b.sheets) (little 8 b.earlier) (points_of b.sheets) 577 8 told_long (little_length 8 b.earlier))
      ∙ little_in_little 8 b.earlier h.total

  tally_shown : (s : ℕ) → s < 8 → sheet_tally_in (image_of b) s ≡ (get_or b.sheets s no_sheet).tally
  unfolding sheet_tally_in
  tally_shown s l =
      let long : length (begun_of b) ≡ 513 = begun_long 8 (maps_of b.sheets) b.n b.earlier h in
      let at : part (513 + s * 8) 8 (image_of b) ≡ little 8 (get_or b.sheets s no_sheet).tally =
      ap (part (513 + s * 8) 8) image_told
      ∙ eight_at 8 (begun_of b) (map tally_bytes b.sheets) (little 8 b.earlier ++ points_of b.sheets) (513 + s * 8) 513 s long refl tallies_full l
      ∙ map_at tally_bytes b.sheets s no_sheet [] (omega (arith, sheets_eight)) in
      ap little_in at ∙ little_in_little 8 (get_or b.sheets s no_sheet).tally (p s l).tally

  image_untold : image_of b ≡ begun_of b ++ tallies_of b.sheets ++ little 8 b.earlier ++ points_v3_of (map without_tally b.sheets)
  unfolding image_of
  image_untold = ap (λ (points : List ℕ). begun_of b ++ tallies_of b.sheets ++ little 8 b.earlier ++ points) (sym (untold_points b.sheets))

  untold_shown : (s : ℕ) → s < 8 → sheet_v3_in 585 (image_of b) s ≡ without_tally (get_or b.sheets s no_sheet)
  unfolding without_tally
  untold_shown s l =
      let front : List ℕ = begun_of b ++ tallies_of b.sheets ++ little 8 b.earlier in
      let untold : List SheetV3 = map without_tally b.sheets in
      let points : (t : ℕ) → t < 8 → PointsShowable (get_or untold t no_sheet_v3).count (get_or untold t no_sheet_v3).points =
      λ t o. rw (untold_at b.sheets t) (p t o).points in
      let map : map_in (image_of b) s ≡ (get_or untold s no_sheet_v3).map = rw (untold_at b.sheets s) (map_shown s l) in
      rw image_untold
      (sheet_at front 585 untold ended_long (length-map b.sheets without_tally ∙ sheets_eight) points s l (rw image_untold at map) ∙ untold_at b.sheets s)

  sheet_shown : (s : ℕ) → s < 8 → sheet_in (image_of b) s ≡ get_or b.sheets s no_sheet
  unfolding sheet_in tallied without_tally
  sheet_shown s l = rw (tally_shown s l, untold_shown s l) refl

  bench_shown_lem : bench_in (image_of b) ≡ b
  unfolding bench_in
  bench_shown_lem = rw (table_is (sheet_in (image_of b)) b.sheets no_sheet sheets_eight sheet_shown, size_shown, earlier_shown) refl

pub image_right : ImageRight
unfolding bench_v2_in image_v2_of bench_v1_in image_v1_of
image_right =
    record {
      bench = bench_shown_lem;
      third = third_shown;
      second = λ b h. rw (old_sheets_lem 8 b.sheets b.n b.tally h, old_size 8 b.sheets b.n b.tally h, old_tally 8 b.sheets b.n b.tally h) refl;
      first = λ b h. rw (old_sheets_lem 4 b.sheets b.n b.tally h, old_size 4 b.sheets b.n b.tally h, old_tally 4 b.sheets b.n b.tally h) refl;
    }
