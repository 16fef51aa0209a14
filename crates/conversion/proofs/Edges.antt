-- Edges of the conversions, computed of the definitions.
use Prim.Native.Nat.{ℕ}
use mathlib.Core.List.{List, [], ◌∷◌}
use mathlib.Core.Path.{◌≡◌, refl}
use lib.ListN.{get_or}
use Rattle.equivalence.specs.Equivalence.{Map, is_map}
use Rattle.equivalence.specs.Lists.{up_to, every, any}
use Rattle.equivalence.specs.Refusal.{lowest, size_test, answered}
use Rattle.equivalence.specs.declared.Refusal.TheVariants.{Size, NotMap}
use Rattle.sheet.specs.Points.{same_name, point_in, is_named, is_named_below, is_point, is_faultless}
use Rattle.sheet.specs.Sheet.{map_on, zero_point, zero_sheet}
use Rattle.sheet.specs.declared.Point.{Point}
use Rattle.bench.specs.Calls.{benched}
use Rattle.benchsheets.specs.State.{eight_of, zero_bench, sheet_of}
use Rattle.bench.proofs.Samples.{low, faulty}
use Rattle.std.specs.Prelude.{Ok, Err}
use Rattle.oldbenches.specs.OldKinds.{maps_test, convert_tests, zero_bench_v2, convert_v1_call, unpointed, without_points, zero_sheet_v3, no_sheet_v3, zero_bench_v3, convert_v2_call}
use Rattle.conversion.specs.Conversion.{untallied, with_tallies, faults_test, convert_v3_tests, convert_v3_call}
use Rattle.oldbenches.specs.declared.BenchV1.{BenchV1}
use Rattle.oldbenches.specs.declared.BenchV2.{BenchV2}
use Rattle.oldbenches.specs.declared.BenchV3.{BenchV3}
use Rattle.oldbenches.specs.declared.SheetV1.{SheetV1}
use Rattle.oldbenches.specs.declared.SheetV3.{SheetV3}

-- eight sheets of the first two kinds: identities over 3, but sheet 5 has the map m
abbrev old_sheets : Map → List SheetV1
old_sheets m =
    let i : SheetV1 = record { map = 0 ∷ 1 ∷ 2 ∷ [] } in
    i ∷ i ∷ i ∷ i ∷ i ∷ record { map = m } ∷ i ∷ i ∷ []

-- benches of these kinds over n, with this tally
abbrev first_kind : ℕ → ℕ → Map → BenchV1
first_kind n t m = record { n = n; tally = t; sheets = old_sheets m }

abbrev second_kind : ℕ → ℕ → Map → BenchV2
second_kind n t m = record { n = n; tally = t; sheets = old_sheets m }

-- a bench of the third kind at the top of 64 bits: identities over 3, but n, and sheet 5 with these places of which `count` are held
abbrev pub third_kind : ℕ → ℕ → List Point → BenchV3
third_kind n count places =
    let i : SheetV3 = record { map = 0 ∷ 1 ∷ 2 ∷ []; count = 0; points = [] } in
    record {
      n = n;
      tally = 18446744073709551615;
      sheets = i ∷ i ∷ i ∷ i ∷ i ∷ record { map = 0 ∷ 1 ∷ 2 ∷ []; count = count; points = places } ∷ i ∷ i ∷ [];
    }

pub record Edges : Type 0 where
  -- an old bench at the top of 32 bits goes through the conversions
  pub converted : (convert_v1_call (first_kind 3 4294967295 (0 ∷ 0 ∷ 2 ∷ [])) ≡ record { answer = Ok tt; bench = second_kind 3 4294967295 (0 ∷ 0 ∷ 2 ∷ []) })
      × (convert_v2_call (second_kind 3 4294967295 (0 ∷ 0 ∷ 2 ∷ [])) ≡ record { answer = Ok tt; bench = without_points (second_kind 3 4294967295 (0 ∷ 0 ∷ 2 ∷ [])) })
      × (get_or (without_points (second_kind 3 4294967295 (0 ∷ 0 ∷ 2 ∷ []))).sheets 5 no_sheet_v3 ≡ record { map = 0 ∷ 0 ∷ 2 ∷ []; count = 0; points = zero_sheet.points })
      × ((convert_v3_call (without_points (second_kind 3 4294967295 (0 ∷ 0 ∷ 2 ∷ [])))).answer ≡ Ok tt)
  -- a bench of the third kind at the top of 64 bits: its total was lost earlier, the tallies are 0, and what stands in a free place is kept too
  pub tallied : ((convert_v3_call (third_kind 3 1 (low 1 ∷ faulty ∷ []))).answer ≡ Ok tt)
      × ((convert_v3_call (third_kind 3 1 (low 1 ∷ faulty ∷ []))).bench.earlier ≡ 18446744073709551615)
      × (sheet_of (convert_v3_call (third_kind 3 1 (low 1 ∷ faulty ∷ []))).bench 5 ≡ record { map = 0 ∷ 1 ∷ 2 ∷ []; tally = 0; count = 1; points = low 1 ∷ faulty ∷ [] })
      × ((sheet_of (convert_v3_call (third_kind 3 1 (low 1 ∷ faulty ∷ []))).bench 0).tally ≡ 0)
  -- an old bench of 0 or 65 elements, or with a sheet that is no map, gives zeros
  pub declined : (convert_v1_call (first_kind 0 7 (0 ∷ 0 ∷ 2 ∷ [])) ≡ record { answer = Err Size; bench = zero_bench_v2 })
      × (convert_v1_call (first_kind 3 7 (0 ∷ 2 ∷ 2 ∷ [])) ≡ record { answer = Err NotMap; bench = zero_bench_v2 })
      × (convert_v2_call (second_kind 65 7 (0 ∷ 0 ∷ 2 ∷ [])) ≡ record { answer = Err Size; bench = zero_bench_v3 })
      × (convert_v2_call (second_kind 3 7 (0 ∷ 2 ∷ 2 ∷ [])) ≡ record { answer = Err NotMap; bench = zero_bench_v3 })
      × (convert_v3_call (third_kind 0 0 []) ≡ record { answer = Err Size; bench = zero_bench })
      × (convert_v3_call (third_kind 3 2 (low 1 ∷ faulty ∷ [])) ≡ record { answer = Err NotMap; bench = zero_bench })

pub edges : Edges
unfolding up_to every any is_map lowest size_test answered benched same_name point_in is_named is_named_below is_point is_faultless map_on zero_point zero_sheet
    eight_of zero_bench sheet_of maps_test convert_tests zero_bench_v2 convert_v1_call unpointed without_points zero_sheet_v3 zero_bench_v3 convert_v2_call untallied
    with_tallies faults_test convert_v3_tests convert_v3_call
edges =
    record {
      converted = (refl, refl, refl, refl);
      tallied = (refl, refl, refl, refl);
      declined = (refl, refl, refl, refl, refl, refl);
    }
