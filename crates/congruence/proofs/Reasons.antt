-- The tests of every service rise by rank: so each is refused with the lowest reason among its tests, and only so; and a refusal leaves the lent
-- bytes as they were.
use Prim.Native.Nat.{ℕ}
use mathlib.Core.List.{List}
use mathlib.Core.Path.{◌≡◌}
use lib.Dec.{T}
use lib.ListN.{length}
use Rattle.lattice.specs.Calls.{two_maps_tests, two_maps_check, two_maps_call, meet_call, join_call}
use Rattle.equivalence.specs.Equivalence.{Map}
use Rattle.equivalence.specs.Ranks.{rank, rises}
use Rattle.equivalence.specs.Refusal.{number_of, lowest, size_test, pairs_test, elements_test, map_test, space_test, equal_test, answered, serve}
use Rattle.equivalence.specs.Lent.{lent_after, written}
use Rattle.equivalence.proofs.Ranks.{answered_reason, serve_refusal}
use Rattle.equivalence.proofs.Refusals.{err_never}
use Rattle.equivalence.specs.declared.Element.{Element}
use Rattle.equivalence.specs.declared.Refusal.{Refusal}
use Rattle.algebra.specs.Accepted.{algebra_tests}
use Rattle.algebra.specs.Algebra.{Algebra}
use Rattle.congruence.specs.Calls.{congruence_test, maps_test, generate_tests, generate_call, contained_tests, contained_call, separate_tests}
use Rattle.congruence.specs.Calls.{separate_call, quotient_tests, quotient_call, decomposed, factor_bytes, decompose_tests, decompose_call}
use Rattle.congruence.specs.Calls.{certify_tests, certify_call}
use Rattle.congruence.specs.Reasons.{Reasons}
use Rattle.congruence.proofs.Decomposing.{decomposed_yes, factor_bytes_no}
use Rattle.std.specs.Prelude.{⊤, Result, Ok, Err}
use Rattle.decomposition.specs.declared.Decomposed.TheVariants.{Irreducible}

-- ---- the tests of each service rise

rises_two_maps : (n : ℕ) (a b : Map) (room : ℕ) → T (rises (two_maps_tests n a b room))
unfolding rises rank number_of size_test map_test space_test
rises_two_maps n a b room = tt

module _ (a : Algebra) where
  rises_generate : (ps : List ℕ) (room : ℕ) → T (rises (generate_tests a ps room))
  unfolding rises rank number_of algebra_tests size_test pairs_test space_test
  rises_generate ps room = tt

  rises_contained : (e : Map) (room : ℕ) → T (rises (contained_tests a e room))
  unfolding rises rank number_of algebra_tests size_test map_test space_test
  rises_contained e room = tt

  rises_separate : (v w room : ℕ) → T (rises (separate_tests a v w room))
  unfolding rises rank number_of algebra_tests size_test elements_test space_test equal_test
  rises_separate v w room = tt

  rises_quotient : (m : Map) (room : ℕ) → T (rises (quotient_tests a m room))
  unfolding rises rank number_of algebra_tests size_test map_test space_test congruence_test
  rises_quotient m room = tt

  rises_decompose : (room : ℕ) → T (rises (decompose_tests a room))
  unfolding rises rank number_of algebra_tests size_test space_test
  rises_decompose room = tt

  rises_certify : (bytes : List ℕ) → T (rises (certify_tests a bytes))
  unfolding rises rank number_of algebra_tests size_test maps_test
  rises_certify bytes = tt

-- ---- every service

-- 11 writes nothing
module _ (a : Algebra) (lent : List ℕ) (x y : Element) where
  after_eleven : (c : Result ⊤ Refusal) → answered Err c (Ok (decomposed a)) ≡ Ok (Irreducible x y) → lent_after c (factor_bytes a) lent ≡ lent
  unfolding answered lent_after written
  after_eleven (Ok z) e = rw (factor_bytes_no a (λ t. let d = decomposed_yes a t in cc))
  after_eleven (Err r) e = absurd (err_never e)

  eleven_unwritten : (decompose_call a lent).0 ≡ Ok (Irreducible x y) → (decompose_call a lent).1 ≡ lent
  unfolding decompose_call serve
  eleven_unwritten e = after_eleven (lowest (decompose_tests a (length lent))) e

pub reasons : Reasons
unfolding meet_call join_call two_maps_call two_maps_check serve generate_call contained_call separate_call quotient_call decompose_call certify_call
reasons =
    record {
      meet = λ n a b lent. serve_refusal tt (two_maps_tests n a b (length lent)) _ lent (rises_two_maps n a b (length lent));
      join = λ n a b lent. serve_refusal tt (two_maps_tests n a b (length lent)) _ lent (rises_two_maps n a b (length lent));
      generate = λ a ps lent. serve_refusal _ (generate_tests a ps (length lent)) _ lent (rises_generate a ps (length lent));
      contained = λ a e lent. serve_refusal tt (contained_tests a e (length lent)) _ lent (rises_contained a e (length lent));
      separate = λ a v w lent. serve_refusal tt (separate_tests a v w (length lent)) _ lent (rises_separate a v w (length lent));
      quotient = λ a m lent. serve_refusal _ (quotient_tests a m (length lent)) _ lent (rises_quotient a m (length lent));
      decompose = λ a lent. serve_refusal _ (decompose_tests a (length lent)) _ lent (rises_decompose a (length lent));
      eleven = eleven_unwritten;
      certify = λ a bytes. answered_reason _ (certify_tests a bytes) (rises_certify a bytes);
    }
