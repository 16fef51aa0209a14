-- What each service answers, and every lent byte after its call.
use Rattle.std.specs.Prelude.{ℕ, ◌-◌, ◌/◌, ◌%◌, true, false, not, ◌||◌, List, [], ◌∷◌, ◌++◌, map, eqb, ltb, length, take, Bool, ⊤, Result, Ok, Err}
use Rattle.equivalence.specs.Lists.{up_to, every, concat}
use Rattle.equivalence.specs.Lent.{stretch}
use Rattle.equivalence.specs.Equivalence.{Map, is_map, blocks}
use Rattle.equivalence.specs.Refusal.{Test, lowest, pairs_test, elements_test, map_test, space_test, equal_test, answered, serve}
use Rattle.equivalence.specs.declared.Refusal.TheVariants.{NotMap, NotCongruence}
use Rattle.equivalence.specs.declared.Element.{Element}
use Rattle.equivalence.specs.declared.Refusal.{Refusal}
use Rattle.algebra.specs.Algebra.{Algebra, algebra_of, cell_count}
use Rattle.algebra.specs.Accepted.{algebra_tests}
use Rattle.algebra.specs.Congruence.{is_congruence}
use Rattle.theory.specs.Extremal.{generated, contained, separated}
use Rattle.quotient.specs.Quotient.{quotient_cells}
use Rattle.theory.specs.Decompose.{listed, factor_space, reducible, common_pair}
use Rattle.theory.specs.Certify.{certified}
use Rattle.decomposition.specs.declared.Decomposed.{Decomposed}
use Rattle.decomposition.specs.declared.Decomposed.TheVariants.{Factors, Irreducible}

-- the element x, as an answer carries it
abbrev pub element : ℕ → Element
element x = record { 0 = x }

-- 12: the map is no congruence
unfoldable pub congruence_test : Algebra → Map → Test
congruence_test a m = record { applies = not (is_congruence a m); reason = NotCongruence }

-- the maps in a list of bytes, n bytes each
unfoldable pub maps_in : ℕ → List ℕ → List Map
maps_in n bytes = map (stretch n bytes) (up_to (length bytes / n))

-- 8: a length that is no multiple of n, above 63 maps, or a member that is no map
unfoldable pub maps_test : ℕ → List ℕ → Test
maps_test n bytes =
    record { applies = not (eqb (length bytes % n) 0) || ltb 63 (length bytes / n) || not (every (is_map n) (maps_in n bytes)); reason = NotMap }

-- Generate's tests: 1 to 7, 9
abbrev pub generate_tests : Algebra → List ℕ → ℕ → List Test
generate_tests a ps room = algebra_tests a ++ (pairs_test a.size ps ∷ space_test a.size room ∷ [])

-- Generate: the least congruence that holds the pairs; its merges are n minus the final blocks
unfoldable pub generate_call : Algebra → List ℕ → List ℕ → Result ℕ Refusal × List ℕ
generate_call a ps lent = serve (generate_tests a ps (length lent)) (a.size - blocks a.size (generated a ps)) (generated a ps) lent

-- Contained's tests: 1 to 6, 8, 9
abbrev pub contained_tests : Algebra → Map → ℕ → List Test
contained_tests a e room = algebra_tests a ++ (map_test a.size e ∷ space_test a.size room ∷ [])

-- Contained: the greatest congruence inside the map
unfoldable pub contained_call : Algebra → Map → List ℕ → Result ⊤ Refusal × List ℕ
contained_call a e lent = serve (contained_tests a e (length lent)) tt (contained a e) lent

-- Separate's tests: 1 to 7, 9, 10
abbrev pub separate_tests : Algebra → ℕ → ℕ → ℕ → List Test
separate_tests a v w room = algebra_tests a ++ (elements_test a.size v w ∷ space_test a.size room ∷ equal_test v w ∷ [])

-- Separate: the earliest congruence that holds v and w apart
unfoldable pub separate_call : Algebra → ℕ → ℕ → List ℕ → Result ⊤ Refusal × List ℕ
separate_call a v w lent = serve (separate_tests a v w (length lent)) tt (separated a v w) lent

-- what Quotient wants of space: the cells of the tables over the map's blocks
abbrev pub quotient_space : Algebra → Map → ℕ
quotient_space a m = cell_count (blocks a.size m) a.arities

-- Quotient's tests: 1 to 6, 8, 9 with the given map's number of blocks, 12
abbrev pub quotient_tests : Algebra → Map → ℕ → List Test
quotient_tests a m room = algebra_tests a ++ (map_test a.size m ∷ space_test (quotient_space a m) room ∷ congruence_test a m ∷ [])

-- Quotient: the tables over blocks, and how many blocks there are
unfoldable pub quotient_call : Algebra → Map → List ℕ → Result ℕ Refusal × List ℕ
quotient_call a m lent = serve (quotient_tests a m (length lent)) (blocks a.size m) (quotient_cells a m) lent

-- the algebra over b elements whose tables stand at the start of a list
abbrev pub algebra_from : ℕ → List ℕ → List ℕ → Algebra
algebra_from b arities tables = algebra_of b arities (take (cell_count b arities) tables)

-- 11, with the first pair common to all congruences but the identity
abbrev pub irreducible_answer : Algebra → Decomposed
irreducible_answer a = Irreducible (element (common_pair a).0) (element (common_pair a).1)

-- what Decompose finds of an accepted algebra: the factors, or 11 with a pair
unfoldable pub decomposed : Algebra → Decomposed
decomposed a = elim (reducible a) [ true ↦ Factors (length (listed a)) | false ↦ irreducible_answer a ]

-- what Decompose writes: factor i from byte i × n; for 11 nothing
unfoldable pub factor_bytes : Algebra → List ℕ
factor_bytes a = elim (reducible a) [ true ↦ concat (listed a) | false ↦ [] ]

-- Decompose's tests: 1 to 6, 9 with the count of factors; 11 comes after these, of an algebra that wants no space
abbrev pub decompose_tests : Algebra → ℕ → List Test
decompose_tests a room = algebra_tests a ++ (space_test (factor_space a) room ∷ [])

-- Decompose: the factors and their count, or 11
unfoldable pub decompose_call : Algebra → List ℕ → Result Decomposed Refusal × List ℕ
decompose_call a lent = serve (decompose_tests a (length lent)) (decomposed a) (factor_bytes a) lent

-- Certify's tests: 1 to 6, 8
abbrev pub certify_tests : Algebra → List ℕ → List Test
certify_tests a bytes = algebra_tests a ++ (maps_test a.size bytes ∷ [])

-- Certify: yes or no
unfoldable pub certify_call : Algebra → List ℕ → Result Bool Refusal
certify_call a bytes = answered Err (lowest (certify_tests a bytes)) (Ok (certified a (maps_in a.size bytes)))
