-- What each call of the bench answers, and the whole bench after it.
use Rattle.std.specs.Prelude.{ℕ, ◌+◌, List, [], ◌∷◌, ◌++◌, ltb, Ok, Err}
use Rattle.equivalence.specs.Equivalence.{Map, identity}
use Rattle.equivalence.specs.Refusal.{Test, lowest, answered}
use Rattle.equivalence.specs.declared.Refusal.TheVariants.{Tally}
use Rattle.algebra.specs.Algebra.{Algebra}
use Rattle.theory.specs.Extremal.{extended}
use Rattle.sheet.specs.Points.{map_under, with_point, without_point}
use Rattle.sheet.specs.Sheet.{map_on, sheet_with, raised_by}
use Rattle.sheet.specs.declared.Sheet.{Sheet}
use Rattle.benchsheets.specs.State.{zero_bench, fresh_bench, sheet_of, with_sheet, with_map, blocks_lost}
use Rattle.benchtests.specs.Tests.{start_tests, handed_tests, clear_tests, set_tests, known_tests}
use Rattle.benchsheets.specs.declared.Bench.{Bench}
use Rattle.bench.specs.declared.Benched.{Benched}

-- 13: a sheet's tally would pass the top of 64 bits
unfoldable pub tally_test : ℕ → Test
tally_test tally = record { applies = ltb 18446744073709551615 tally; reason = Tally }

-- a call by its tests: done, with the new bench; or refused, with the other
unfoldable pub benched : {B : Type 0} → List Test → B → B → Benched B
benched tests new other =
    answered (λ r. record { answer = Err r; bench = other }) (lowest tests) (record { answer = Ok tt; bench = new })

-- Start (1): identities, and nine zeros; refused, a bench of zeros
unfoldable pub start_call : ℕ → Benched Bench
start_call n = benched (start_tests n) (fresh_bench n) zero_bench

-- the map that Add gives sheet k: the least congruence of the algebra that holds the sheet's old map and the pair
unfoldable pub map_by_add : Bench → Algebra → ℕ → ℕ → ℕ → Map
map_by_add b a k x y = extended a (map_on a.size (sheet_of b k)) x y

-- the blocks that sheet k loses by it
unfoldable pub lost_by_add : Bench → Algebra → ℕ → ℕ → ℕ → ℕ
lost_by_add b a k x y = blocks_lost a.size (map_on a.size (sheet_of b k)) (map_by_add b a k x y)

-- Add's tests: those, and 13 of the sheet's own tally
abbrev pub add_tests : Bench → Algebra → ℕ → ℕ → ℕ → List Test
add_tests b a k x y = handed_tests b a k x y ++ (tally_test ((sheet_of b k).tally + lost_by_add b a k x y) ∷ [])

-- the sheet that Add gives: it has the map, and its tally rises by the blocks lost
unfoldable pub sheet_by_add : Bench → Algebra → ℕ → ℕ → ℕ → Sheet
sheet_by_add b a k x y = raised_by (lost_by_add b a k x y) (sheet_with (map_by_add b a k x y) (sheet_of b k))

-- Add (1 to 8, 13): that sheet in the place of the old one
unfoldable pub add_call : Bench → Algebra → ℕ → ℕ → ℕ → Benched Bench
add_call b a k x y = benched (add_tests b a k x y) (with_sheet b k (sheet_by_add b a k x y)) b

-- Clear (1, 7, 8): the sheet gets the identity, and its tally stays
unfoldable pub clear_call : Bench → ℕ → Benched Bench
clear_call b k = benched (clear_tests b k) (with_map b k (identity b.n)) b

-- Set (1, 7, 8, 16): the sheet's map is stored under the name, and takes the place of an older point of that name
unfoldable pub set_call : Bench → ℕ → List ℕ → Benched Bench
set_call b k name = benched (set_tests b k name) (with_sheet b k (with_point name (sheet_of b k))) b

-- Return (1, 7, 8, 15): the sheet gets the map that is stored under the name; the point and the sheet's tally stay
unfoldable pub return_call : Bench → ℕ → List ℕ → Benched Bench
return_call b k name = benched (known_tests b k name) (with_map b k (map_under b.n name (sheet_of b k))) b

-- Forget (1, 7, 8, 15): the sheet holds the point no more, and its place serves the next new name
unfoldable pub forget_call : Bench → ℕ → List ℕ → Benched Bench
forget_call b k name = benched (known_tests b k name) (with_sheet b k (without_point name (sheet_of b k))) b
