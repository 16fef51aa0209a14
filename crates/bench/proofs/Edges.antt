-- Edges of the bench's calls, computed of the definitions.
use Prim.Native.Nat.{ℕ}
use mathlib.Core.List.{List, [], ◌∷◌, ◌++◌}
use mathlib.Core.Path.{◌≡◌, refl}
use Rattle.std.specs.Prelude.{Ok, Err}
use Rattle.equivalence.specs.Equivalence.{Map, is_map, holds, inside, names_of, blocks, map_of, identity, maps, best}
use Rattle.equivalence.specs.Lists.{up_to, every, any, keep, first, concat}
use Rattle.equivalence.specs.Refusal.{lowest, size_test, answered, elements_test}
use Rattle.equivalence.specs.Lent.{written}
use Rattle.equivalence.specs.declared.Refusal.TheVariants.{Size, Range, NotMap, Tally, UnknownName, PointsFull}
use Rattle.algebra.specs.Accepted.{algebra_tests}
use Rattle.algebra.specs.Algebra.{cell_count, operations_of, operations, arguments, place, value}
use Rattle.algebra.specs.Congruence.{respects, is_congruence, congruences}
use Rattle.theory.specs.Extremal.{holds_all, above, extended}
use Rattle.theory.specs.Samples.{bare}
use Rattle.sheet.specs.Points.{same_name, point_in, is_named, is_named_below, first_named, is_held, is_full_for, place_named, map_under, is_point, is_faultless, with_point, without_point}
use Rattle.sheet.specs.Sheet.{map_on, zero_point, zero_sheet, sheet_with, raised_by}
use Rattle.sheet.specs.declared.Point.{Point}
use Rattle.sheet.specs.declared.Sheet.{Sheet}
use Rattle.benchtests.specs.Tests.{sheet_test, bench_test, unknown_test, full_test, place_tests, handed_tests}
use Rattle.bench.specs.Calls.{tally_test, benched, start_call, map_by_add, lost_by_add, sheet_by_add, add_call}
use Rattle.benchtests.specs.Tests.{clear_tests, set_tests, known_tests}
use Rattle.bench.specs.Calls.{clear_call, set_call, return_call, forget_call}
use Rattle.benchsheets.specs.State.{eight_of, zero_bench, fresh_bench, sheet_of, with_sheet, with_map, blocks_lost}
use Rattle.bench.proofs.Samples.{unary, named, low, high, faulty}
use Rattle.benchsheets.specs.declared.Bench.{Bench}

-- a fresh bench over n, but that t blocks were lost earlier, and as many by sheets 0, 6 and 7
abbrev at : ℕ → ℕ → Bench
at n t =
    let fresh : Sheet = sheet_with (identity n) zero_sheet in
    let full : Sheet = raised_by t fresh in
    record { n = n; earlier = t; sheets = full ∷ fresh ∷ fresh ∷ fresh ∷ fresh ∷ fresh ∷ full ∷ full ∷ [] }

-- a bench over 3 whose sheet 5 has the map m
abbrev five : Map → Bench
five m = with_map (fresh_bench 3) 5 m

-- a bench over 3 whose sheet 5 has the identity, and these places of which `count` are held
abbrev pointed : ℕ → List Point → Bench
pointed count places = with_sheet (fresh_bench 3) 5 (record { map = 0 ∷ 1 ∷ 2 ∷ []; tally = 4; count = count; points = places })

abbrev seven : List Point
seven = low 1 ∷ high 2 ∷ low 3 ∷ low 4 ∷ low 5 ∷ low 6 ∷ high 7 ∷ []

pub record Edges : Type 0 where
  -- sheet 7 is the last
  pub last : (add_call (at 2 0) (bare 2) 7 0 1).answer ≡ Ok tt
  pub eight : ((add_call (at 2 0) (bare 2) 8 0 1).answer ≡ Err Range) × ((clear_call (at 2 0) 8).answer ≡ Err Range)
  -- a sheet's tally one below its top, and at it: an Add that loses nothing is accepted there
  pub below : ((add_call (at 2 18446744073709551614) (bare 2) 0 0 1).answer ≡ Ok tt)
      × ((sheet_of (add_call (at 2 18446744073709551614) (bare 2) 0 0 1).bench 0).tally ≡ 18446744073709551615)
  pub top : ((add_call (at 2 18446744073709551615) (bare 2) 0 0 1).answer ≡ Err Tally) × ((add_call (at 2 18446744073709551615) (bare 2) 0 1 1).answer ≡ Ok tt)
  pub two : (add_call (at 3 18446744073709551614) unary 0 0 1).answer ≡ Err Tally
  -- beside sheets at their top, and all that was lost earlier, a sheet that is not at its own takes an Add; none of the others moves
  pub beside : ((add_call (at 2 18446744073709551615) (bare 2) 1 0 1).answer ≡ Ok tt)
      × ((sheet_of (add_call (at 2 18446744073709551615) (bare 2) 1 0 1).bench 1).tally ≡ 1)
      × ((sheet_of (add_call (at 2 18446744073709551615) (bare 2) 1 0 1).bench 0).tally ≡ 18446744073709551615)
      × ((sheet_of (add_call (at 2 18446744073709551615) (bare 2) 1 0 1).bench 2).tally ≡ 0)
      × ((add_call (at 2 18446744073709551615) (bare 2) 1 0 1).bench.earlier ≡ 18446744073709551615)
  -- a bench of another n, and a bench of zeros
  pub other : (add_call (at 3 0) (bare 2) 0 0 1).answer ≡ Err NotMap
  pub zeros : ((add_call zero_bench (bare 2) 0 0 1).answer ≡ Err NotMap) × ((clear_call zero_bench 0).answer ≡ Err Size) × ((start_call 65).bench ≡ zero_bench)
  -- a sheet that is no map, though the call names another
  pub unnamed : ((add_call (five (0 ∷ 2 ∷ 2 ∷ [])) (bare 3) 0 0 1).answer ≡ Err NotMap) × ((clear_call (five (0 ∷ 2 ∷ 2 ∷ [])) 0).answer ≡ Err NotMap)
  -- an equal pair: the old map, 0 0 2, is no congruence of the algebra, and a block is lost
  pub equal : (map_on 3 (sheet_of (add_call (five (0 ∷ 0 ∷ 2 ∷ [])) unary 5 1 1).bench 5) ≡ 0 ∷ 0 ∷ 0 ∷ [])
      × ((sheet_of (add_call (five (0 ∷ 0 ∷ 2 ∷ [])) unary 5 1 1).bench 5).tally ≡ 1)
  -- Set of a new name fills the first free place, of a held one its own; then eight are held, and a ninth is declined
  pub stored : ((sheet_of (set_call (pointed 7 (seven ++ (faulty ∷ []))) 5 (named 8)).bench 5).points ≡ seven ++ (record { name = named 8; map = 0 ∷ 1 ∷ 2 ∷ [] } ∷ []))
      × ((sheet_of (set_call (pointed 7 (seven ++ (faulty ∷ []))) 5 (named 8)).bench 5).count ≡ 8)
      × ((set_call (pointed 8 (seven ++ (low 8 ∷ []))) 5 (named 8)).answer ≡ Ok tt)
      × ((sheet_of (set_call (pointed 8 (seven ++ (low 8 ∷ []))) 5 (named 8)).bench 5).count ≡ 8)
      × ((set_call (pointed 8 (seven ++ (low 8 ∷ []))) 5 (named 9)).answer ≡ Err PointsFull)
  -- Return takes the map under the name; Forget puts the last held point into the free place
  pub returned : (map_on 3 (sheet_of (return_call (pointed 7 (seven ++ (faulty ∷ []))) 5 (named 2)).bench 5) ≡ 0 ∷ 1 ∷ 1 ∷ [])
      × ((return_call (pointed 7 (seven ++ (faulty ∷ []))) 5 (named 9)).answer ≡ Err UnknownName)
      × ((return_call (pointed 7 (seven ++ (faulty ∷ []))) 4 (named 2)).answer ≡ Err UnknownName)
  pub forgotten : ((sheet_of (forget_call (pointed 3 (low 1 ∷ high 2 ∷ low 3 ∷ [])) 5 (named 1)).bench 5).points ≡ low 3 ∷ high 2 ∷ low 3 ∷ [])
      × ((sheet_of (forget_call (pointed 3 (low 1 ∷ high 2 ∷ low 3 ∷ [])) 5 (named 1)).bench 5).count ≡ 2)
      × ((forget_call (pointed 2 (low 1 ∷ high 2 ∷ low 3 ∷ [])) 5 (named 3)).answer ≡ Err UnknownName)
  -- no call but Add moves the tally of its sheet
  pub kept : ((sheet_of (clear_call (pointed 1 (low 1 ∷ high 2 ∷ [])) 5).bench 5).tally ≡ 4) × ((sheet_of (set_call (pointed 1 (low 1 ∷ high 2 ∷ [])) 5 (named 2)).bench 5).tally ≡ 4)
      × ((sheet_of (return_call (pointed 1 (low 1 ∷ high 2 ∷ [])) 5 (named 1)).bench 5).tally ≡ 4)
      × ((sheet_of (forget_call (pointed 1 (low 1 ∷ high 2 ∷ [])) 5 (named 1)).bench 5).tally ≡ 4)
  -- faults of points, whichever sheet is named: a map that is none, two of one name, nine held; what stands in a free place is none
  pub faults : ((clear_call (pointed 1 (faulty ∷ [])) 0).answer ≡ Err NotMap) × ((clear_call (pointed 2 (low 1 ∷ high 1 ∷ [])) 0).answer ≡ Err NotMap)
      × ((clear_call (pointed 9 (seven ++ (low 8 ∷ []))) 0).answer ≡ Err NotMap)
      × ((clear_call (pointed 1 (low 1 ∷ high 1 ∷ faulty ∷ [])) 0).answer ≡ Ok tt)
      × ((set_call (pointed 1 (faulty ∷ [])) 8 (named 1)).answer ≡ Err Range)
      × ((set_call zero_bench 8 (named 1)).answer ≡ Err Size)

pub edges : Edges
unfolding up_to every any first holds concat map_of keep maps names_of blocks best inside is_map identity is_congruence operations operations_of cell_count
    arguments place value respects congruences holds_all above extended lowest algebra_tests size_test elements_test answered written sheet_test bench_test
    tally_test unknown_test full_test benched start_call map_by_add lost_by_add sheet_by_add place_tests handed_tests add_call clear_tests clear_call set_tests set_call
    known_tests return_call forget_call same_name point_in is_named is_named_below first_named is_held is_full_for place_named map_under is_point is_faultless with_point
    without_point map_on sheet_with raised_by zero_point zero_sheet eight_of zero_bench fresh_bench sheet_of with_sheet with_map blocks_lost
edges =
    record {
      last = refl;
      eight = (refl, refl);
      below = (refl, refl);
      top = (refl, refl);
      two = refl;
      beside = (refl, refl, refl, refl, refl);
      other = refl;
      zeros = (refl, refl, refl);
      unnamed = (refl, refl);
      equal = (refl, refl);
      stored = (refl, refl, refl, refl, refl);
      returned = (refl, refl, refl);
      forgotten = (refl, refl, refl);
      kept = (refl, refl, refl, refl);
      faults = (refl, refl, refl, refl, refl, refl);
    }
