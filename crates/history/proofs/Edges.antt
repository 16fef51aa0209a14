-- Edges of calls made one after the other, computed of the definitions.
use mathlib.Core.Bool.{true, false}
use mathlib.Core.List.{List, [], ◌∷◌}
use mathlib.Core.Path.{◌≡◌, refl}
use Rattle.equivalence.specs.Equivalence.{is_map, holds, inside, names_of, blocks, map_of, identity, maps, best}
use Rattle.equivalence.specs.Lists.{up_to, every, any, keep, first, concat}
use Rattle.equivalence.specs.Refusal.{lowest, size_test, answered, elements_test}
use Rattle.equivalence.specs.Lent.{written}
use Rattle.algebra.specs.Accepted.{algebra_tests}
use Rattle.algebra.specs.Algebra.{cell_count, operations_of, operations, arguments, place, value}
use Rattle.algebra.specs.Congruence.{respects, is_congruence, congruences}
use Rattle.theory.specs.Extremal.{holds_all, above, extended}
use Rattle.theory.specs.Samples.{bare}
use Rattle.sheet.specs.Points.{same_name, point_in, is_named, is_named_below, is_point, is_faultless}
use Rattle.sheet.specs.Sheet.{map_on, zero_sheet, sheet_with, raised_by}
use Rattle.benchtests.specs.Tests.{sheet_test, bench_test, place_tests, handed_tests, clear_tests}
use Rattle.bench.specs.Calls.{tally_test, benched, start_call, map_by_add, lost_by_add, sheet_by_add, add_call, clear_call}
use Rattle.benchsheets.specs.State.{eight_of, fresh_bench, sheet_of, with_sheet, with_map, blocks_lost}
use Rattle.bench.proofs.Samples.{named, low, faulty}
use Rattle.benchsheets.specs.declared.Bench.{Bench}
use Rattle.conversion.specs.Conversion.{untallied, with_tallies, faults_test, convert_v3_tests, convert_v3_call}
use Rattle.conversion.proofs.Edges.{third_kind}
use Rattle.history.specs.Histories.{Call, Start, Add, Clear, Set, Return, Forget, called, Made, is_done, next, after, remapped, where_named, on_sheet, sheet_after}
use Rattle.history.specs.Sums.{tallies, nine, lost_by, lost_along, bench_after}

-- calls made, the latest first: Start, an Add to sheet 0 that was accepted, one that was refused
abbrev made : List Made
made =
    record { call = Add (bare 3) 0 1 2; accepted = false }
    ∷ record { call = Add (bare 3) 0 0 1; accepted = true }
    ∷ record { call = Start 3; accepted = true }
    ∷ []

-- and Clear of the sheet
abbrev cleared_then : List Made
cleared_then = record { call = Clear 0; accepted = true } ∷ made

-- then the identity is stored under a name, an Add follows, and a Return to the name; then the name is forgotten
abbrev returned_then : List Made
returned_then =
    record { call = Return 0 (named 1); accepted = true }
    ∷ record { call = Add (bare 3) 0 0 2; accepted = true }
    ∷ record { call = Set 0 (named 1); accepted = true }
    ∷ cleared_then

abbrev forgotten_then : List Made
forgotten_then = record { call = Forget 0 (named 1); accepted = true } ∷ returned_then

-- a bench of the third kind at the top of 64 bits, converted; an Add to its sheet 5, another that is refused, and a Clear
abbrev converted : Bench
converted = (convert_v3_call (third_kind 3 1 (low 1 ∷ faulty ∷ []))).bench

abbrev added_then : List Call
added_then = Add (bare 3) 5 0 1 ∷ Add (bare 3) 5 0 3 ∷ Clear 5 ∷ []

pub record Edges : Type 0 where
  -- a refused Add does nothing, another sheet stays, and a Clear takes no block back
  pub history : ((sheet_after 0 made).map ≡ 0 ∷ 0 ∷ 2 ∷ []) × ((sheet_after 1 made).map ≡ 0 ∷ 1 ∷ 2 ∷ []) × ((sheet_after 0 cleared_then).map ≡ 0 ∷ 1 ∷ 2 ∷ [])
      × ((sheet_after 0 cleared_then).lost ≡ 1)
      × ((sheet_after 1 cleared_then).lost ≡ 0)
  -- a Return takes no block back either; a name that was forgotten is known no more, on its own sheet
  pub points : ((sheet_after 0 returned_then).map ≡ 0 ∷ 1 ∷ 2 ∷ []) × ((sheet_after 0 returned_then).lost ≡ 2) × ((sheet_after 0 returned_then).known (named 1) ≡ true)
      × ((sheet_after 1 returned_then).known (named 1) ≡ false)
      × ((sheet_after 0 forgotten_then).known (named 1) ≡ false)
      × ((sheet_after 0 forgotten_then).map ≡ 0 ∷ 1 ∷ 2 ∷ [])
  -- the nine are the old total and the block that was lost; a Start then gives nine zeros
  pub sums : (lost_along added_then converted ≡ 1) × ((bench_after converted added_then).earlier ≡ 18446744073709551615)
      × (nine (bench_after converted added_then) ≡ 18446744073709551616)
      × (nine (bench_after converted (Start 3 ∷ [])) ≡ 0)

pub edges : Edges
unfolding up_to every any first holds concat map_of keep maps names_of blocks best inside is_map identity is_congruence operations operations_of cell_count
    arguments place value respects congruences holds_all above extended lowest algebra_tests size_test elements_test answered written sheet_test bench_test
    tally_test benched start_call map_by_add lost_by_add sheet_by_add place_tests handed_tests add_call clear_tests clear_call same_name point_in is_named is_named_below
    is_point is_faultless map_on zero_sheet sheet_with raised_by eight_of fresh_bench sheet_of with_sheet with_map blocks_lost untallied with_tallies faults_test convert_v3_tests
    convert_v3_call remapped where_named on_sheet sheet_after called is_done next after tallies nine lost_by lost_along
edges =
    record {
      history = (refl, refl, refl, refl, refl);
      points = (refl, refl, refl, refl, refl, refl);
      sums = (refl, refl, refl, refl);
    }
