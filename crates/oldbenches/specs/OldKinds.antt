-- Benches of older kinds, and the conversions of the first two, each into the next kind; an older bench goes through them in turn.
use Rattle.std.specs.Prelude.{ℕ, not, List, [], ◌∷◌, map, take, replicate}
use Rattle.equivalence.specs.Equivalence.{is_map}
use Rattle.equivalence.specs.Lists.{every}
use Rattle.equivalence.specs.Refusal.{Test, size_test}
use Rattle.equivalence.specs.declared.Refusal.TheVariants.{NotMap}
use Rattle.sheet.specs.Sheet.{zero_point}
use Rattle.bench.specs.Calls.{benched}
use Rattle.bench.specs.declared.Benched.{Benched}
use Rattle.oldbenches.specs.declared.BenchV1.{BenchV1}
use Rattle.oldbenches.specs.declared.BenchV2.{BenchV2}
use Rattle.oldbenches.specs.declared.BenchV3.{BenchV3}
use Rattle.oldbenches.specs.declared.SheetV1.{SheetV1}
use Rattle.oldbenches.specs.declared.SheetV3.{SheetV3}

-- ---- the first kind

-- no sheet of the first two kinds: what stands past the last one
abbrev pub no_sheet_v1 : SheetV1
no_sheet_v1 = record { map = [] }

-- 8, of old sheets: any of them is no map over n
unfoldable pub maps_test : ℕ → List SheetV1 → Test
maps_test n sheets = record { applies = not (every (λ s. is_map n (take n s.map)) sheets); reason = NotMap }

-- the tests of a conversion of the first two kinds: 1 of the old bench's n, and 8
unfoldable pub convert_tests : ℕ → List SheetV1 → List Test
convert_tests n sheets = size_test n ∷ maps_test n sheets ∷ []

-- a bench of the second kind with all that one of the first holds: its n, its tally, its sheets
abbrev pub widened : BenchV1 → BenchV2
widened old = record { n = old.n; tally = old.tally; sheets = old.sheets }

-- a bench of the second kind of zeros
unfoldable pub zero_bench_v2 : BenchV2
zero_bench_v2 = record { n = 0; tally = 0; sheets = replicate 8 (record { map = replicate 64 0 }) }

-- conversion of a bench of the first kind (1, 8): one of the second with all that it holds; refused, one of zeros
unfoldable pub convert_v1_call : BenchV1 → Benched BenchV2
convert_v1_call old = benched (convert_tests old.n old.sheets) (widened old) zero_bench_v2

-- ---- the second kind

-- a sheet of the third kind of zeros
unfoldable pub zero_sheet_v3 : SheetV3
zero_sheet_v3 = record { map = replicate 64 0; count = 0; points = replicate 8 zero_point }

-- no sheet of the third kind: what stands past the last one
abbrev pub no_sheet_v3 : SheetV3
no_sheet_v3 = record { map = []; count = 0; points = [] }

-- a sheet with an old one's map and no points
unfoldable pub unpointed : SheetV1 → SheetV3
unpointed s = record { map = s.map; count = 0; points = replicate 8 zero_point }

-- a bench of the third kind with all that one of the second holds, and no points
unfoldable pub without_points : BenchV2 → BenchV3
without_points old = record { n = old.n; tally = old.tally; sheets = map unpointed old.sheets }

-- a bench of the third kind of zeros
unfoldable pub zero_bench_v3 : BenchV3
zero_bench_v3 = record { n = 0; tally = 0; sheets = replicate 8 zero_sheet_v3 }

-- conversion of a bench of the second kind (1, 8): one of the third with all that it holds, and no points; refused, one of zeros
unfoldable pub convert_v2_call : BenchV2 → Benched BenchV3
convert_v2_call old = benched (convert_tests old.n old.sheets) (without_points old) zero_bench_v3
