-- The tests of the bench's calls, but for Add's 13.
use Rattle.std.specs.Prelude.{ℕ, not, ◌||◌, List, [], ◌∷◌, ◌++◌, eqb, ltb}
use Rattle.equivalence.specs.Lists.{every}
use Rattle.equivalence.specs.Refusal.{Test, size_test, elements_test}
use Rattle.equivalence.specs.declared.Refusal.TheVariants.{Range, NotMap, UnknownName, PointsFull}
use Rattle.algebra.specs.Accepted.{algebra_tests}
use Rattle.algebra.specs.Algebra.{Algebra}
use Rattle.sheet.specs.Points.{is_held, is_full_for, is_faultless}
use Rattle.sheet.specs.declared.Sheet.{Sheet}
use Rattle.benchsheets.specs.State.{sheet_of}
use Rattle.benchsheets.specs.declared.Bench.{Bench}

-- 7: a sheet above 7
unfoldable pub sheet_test : ℕ → Test
sheet_test k = record { applies = ltb 7 k; reason = Range }

-- 8: a bench of another n, or any of its sheets has a fault: no map over n, over eight points, a point's map is none, or two points of one name
unfoldable pub bench_test : ℕ → Bench → Test
bench_test n b = record { applies = not (eqb b.n n) || not (every (is_faultless n) b.sheets); reason = NotMap }

-- 15: the sheet holds no point of this name
unfoldable pub unknown_test : List ℕ → Sheet → Test
unknown_test name s = record { applies = not (is_held name s); reason = UnknownName }

-- 16: a new name, and the sheet holds eight points
unfoldable pub full_test : List ℕ → Sheet → Test
full_test name s = record { applies = is_full_for name s; reason = PointsFull }

-- Start's test: 1
abbrev pub start_tests : ℕ → List Test
start_tests n = size_test n ∷ []

-- 7 and 8 of an Add over n
unfoldable pub place_tests : Bench → ℕ → ℕ → ℕ → ℕ → List Test
place_tests b n k x y = sheet_test k ∷ elements_test n x y ∷ bench_test n b ∷ []

-- the tests of what Add is handed, made before it looks for the congruence: 1 to 6 of the algebra, then 7 and 8
unfoldable pub handed_tests : Bench → Algebra → ℕ → ℕ → ℕ → List Test
handed_tests b a k x y = algebra_tests a ++ place_tests b a.size k x y

-- Clear's tests: 1 of the bench's own n, 7 and 8
unfoldable pub clear_tests : Bench → ℕ → List Test
clear_tests b k = size_test b.n ∷ sheet_test k ∷ bench_test b.n b ∷ []

-- Set's tests: Clear's, and 16
unfoldable pub set_tests : Bench → ℕ → List ℕ → List Test
set_tests b k name = clear_tests b k ++ (full_test name (sheet_of b k) ∷ [])

-- Return's and Forget's tests: Clear's, and 15
unfoldable pub known_tests : Bench → ℕ → List ℕ → List Test
known_tests b k name = clear_tests b k ++ (unknown_test name (sheet_of b k) ∷ [])
