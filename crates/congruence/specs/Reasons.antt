-- Demand 1, the numbers: each call is refused with the lowest reason among its tests, under that reason's condition only; refused, it writes nothing.
use Rattle.std.specs.Prelude.{ℕ, List, ◌≡◌, length, Ok}
use Rattle.lattice.specs.Calls.{two_maps_tests, meet_call, join_call}
use Rattle.equivalence.specs.Equivalence.{Map}
use Rattle.equivalence.specs.Ranks.{ReasonRight, RefusalRight}
use Rattle.equivalence.specs.declared.Element.{Element}
use Rattle.algebra.specs.Algebra.{Algebra}
use Rattle.congruence.specs.Calls.{generate_tests, generate_call, contained_tests, contained_call, separate_tests, separate_call, quotient_tests, quotient_call, decompose_tests, decompose_call, certify_tests, certify_call}
use Rattle.decomposition.specs.declared.Decomposed.TheVariants.{Irreducible}

-- every service, whatever it is handed
pub record Reasons : Type 0 where
  pub meet : (n : ℕ) (a b : Map) (lent : List ℕ) → RefusalRight (meet_call n a b lent) (two_maps_tests n a b (length lent)) lent
  pub join : (n : ℕ) (a b : Map) (lent : List ℕ) → RefusalRight (join_call n a b lent) (two_maps_tests n a b (length lent)) lent
  pub generate : (a : Algebra) (ps lent : List ℕ) → RefusalRight (generate_call a ps lent) (generate_tests a ps (length lent)) lent
  pub contained : (a : Algebra) (e : Map) (lent : List ℕ) → RefusalRight (contained_call a e lent) (contained_tests a e (length lent)) lent
  pub separate : (a : Algebra) (v w : ℕ) (lent : List ℕ) → RefusalRight (separate_call a v w lent) (separate_tests a v w (length lent)) lent
  pub quotient : (a : Algebra) (m : Map) (lent : List ℕ) → RefusalRight (quotient_call a m lent) (quotient_tests a m (length lent)) lent
  pub decompose : (a : Algebra) (lent : List ℕ) → RefusalRight (decompose_call a lent) (decompose_tests a (length lent)) lent
  -- 11, whose condition `SpaceTheorem` states, writes nothing either
  pub eleven : (a : Algebra) (lent : List ℕ) (x y : Element) → (decompose_call a lent).0 ≡ Ok (Irreducible x y) → (decompose_call a lent).1 ≡ lent
  pub certify : (a : Algebra) (bytes : List ℕ) → ReasonRight (certify_call a bytes) (certify_tests a bytes)
