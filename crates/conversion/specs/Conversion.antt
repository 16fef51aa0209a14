-- Conversion of a bench of the third kind into today's.
use Rattle.std.specs.Prelude.{ℕ, not, List, [], ◌∷◌, map}
use Rattle.equivalence.specs.Lists.{every}
use Rattle.equivalence.specs.Refusal.{Test, size_test}
use Rattle.equivalence.specs.declared.Refusal.TheVariants.{NotMap}
use Rattle.sheet.specs.Points.{is_faultless}
use Rattle.sheet.specs.declared.Sheet.{Sheet}
use Rattle.bench.specs.Calls.{benched}
use Rattle.benchsheets.specs.State.{zero_bench}
use Rattle.benchsheets.specs.declared.Bench.{Bench}
use Rattle.bench.specs.declared.Benched.{Benched}
use Rattle.oldbenches.specs.OldKinds.{unpointed}
use Rattle.oldbenches.specs.declared.BenchV3.{BenchV3}
use Rattle.oldbenches.specs.declared.SheetV1.{SheetV1}
use Rattle.oldbenches.specs.declared.SheetV3.{SheetV3}

-- a sheet with an old one's map and points, and tally 0
unfoldable pub untallied : SheetV3 → Sheet
untallied s = record { map = s.map; tally = 0; count = s.count; points = s.points }

-- a sheet with a map of the first two kinds, tally 0 and no points
abbrev pub map_alone : SheetV1 → Sheet
map_alone s = untallied (unpointed s)

-- a bench with all that one of the third kind holds: its total was lost earlier, and the tallies of the sheets begin at 0
unfoldable pub with_tallies : BenchV3 → Bench
with_tallies old = record { n = old.n; earlier = old.tally; sheets = map untallied old.sheets }

-- 8, of sheets of the third kind: any of them has a fault over n, its map or its points
unfoldable pub faults_test : ℕ → List SheetV3 → Test
faults_test n sheets = record { applies = not (every (λ s. is_faultless n (untallied s)) sheets); reason = NotMap }

-- the tests of its conversion: 1 of the old bench's n, and 8
unfoldable pub convert_v3_tests : ℕ → List SheetV3 → List Test
convert_v3_tests n sheets = size_test n ∷ faults_test n sheets ∷ []

-- conversion of a bench of the third kind (1, 8): a bench with all that it holds; refused, a bench of zeros
unfoldable pub convert_v3_call : BenchV3 → Benched Bench
convert_v3_call old = benched (convert_v3_tests old.n old.sheets) (with_tallies old) zero_bench
