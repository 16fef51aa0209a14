-- The conversions of the first two kinds: what their tests find, and what they give by that.
use Prim.Native.Nat.{ℕ}
use mathlib.Core.Bool.{Bool, true, false, not}
use mathlib.Core.List.{List, []}
use mathlib.Core.Path.{◌≡◌, sym, ap, ◌∙◌}
use lib.ListN.{take}
use Rattle.std.specs.Prelude.{Ok, Err}
use Rattle.equivalence.specs.Equivalence.{is_map}
use Rattle.equivalence.specs.Lists.{every}
use Rattle.equivalence.specs.Refusal.{Test, lowest, size_test, answered}
use Rattle.equivalence.proofs.Refusals.{lowest_none, lowest_here, lowest_next, size_refused, size_passed}
use Rattle.equivalence.proofs.Tests.{T_of, not_T_of}
use Rattle.equivalence.specs.declared.Refusal.{Refusal}
use Rattle.equivalence.specs.declared.Refusal.TheVariants.{Size, NotMap}
use Rattle.bench.proofs.Calling.{benched_answer, benched_done, benched_refused}
use Rattle.oldbenches.specs.OldKinds.{maps_test, convert_tests, widened, zero_bench_v2, convert_v1_call, without_points, zero_bench_v3, convert_v2_call}
use Rattle.oldbenches.specs.declared.BenchV1.{BenchV1}
use Rattle.oldbenches.specs.declared.BenchV2.{BenchV2}
use Rattle.oldbenches.specs.declared.SheetV1.{SheetV1}

-- ---- the tests

module _ (n : ℕ) (sheets : List SheetV1) {flag : Bool} (s : flag ≡ not (size_test n).applies) where
  pub convert_unsized : not flag ≡ true → Err Size ≡ lowest (convert_tests n sheets)
  unfolding convert_tests
  convert_unsized f = sym (size_refused n _ s f)

  module _ (f : not flag ≡ false) {right : Bool} (e : right ≡ every (λ s. is_map n (take n s.map)) sheets) where
    pub convert_unmapped : not right ≡ true → Err NotMap ≡ lowest (convert_tests n sheets)
    unfolding convert_tests maps_test
    convert_unmapped g = sym (size_passed n _ s f ∙ lowest_here (maps_test n sheets) [] (T_of (ap not (sym e) ∙ g)))

    pub convert_passed : not right ≡ false → Ok tt ≡ lowest (convert_tests n sheets)
    unfolding convert_tests maps_test
    convert_passed g = sym (size_passed n _ s f ∙ lowest_next (maps_test n sheets) [] (not_T_of (ap not (sym e) ∙ g)) ∙ lowest_none)

-- ---- the conversions, by what the tests found

module _ (old : BenchV1) where
  abbrev tests : List Test
  tests = convert_tests old.n old.sheets

  -- its answer is that of the tests
  pub first_answer : (convert_v1_call old).answer ≡ answered Err (lowest tests) (Ok tt)
  unfolding convert_v1_call
  first_answer = benched_answer tests (widened old) zero_bench_v2

  -- and what it gives is known by that
  pub first_done : (convert_v1_call old).answer ≡ Ok tt → (convert_v1_call old).bench ≡ widened old
  unfolding convert_v1_call
  first_done e = benched_done tests (widened old) zero_bench_v2 e

  pub first_refused : (r : Refusal) → (convert_v1_call old).answer ≡ Err r → (convert_v1_call old).bench ≡ zero_bench_v2
  unfolding convert_v1_call
  first_refused r e = benched_refused tests (widened old) zero_bench_v2 r e

module _ (old : BenchV2) where
  abbrev tests_v2 : List Test
  tests_v2 = convert_tests old.n old.sheets

  -- its answer is that of the tests
  pub second_answer : (convert_v2_call old).answer ≡ answered Err (lowest tests_v2) (Ok tt)
  unfolding convert_v2_call
  second_answer = benched_answer tests_v2 (without_points old) zero_bench_v3

  -- and what it gives is known by that
  pub second_done : (convert_v2_call old).answer ≡ Ok tt → (convert_v2_call old).bench ≡ without_points old
  unfolding convert_v2_call
  second_done e = benched_done tests_v2 (without_points old) zero_bench_v3 e

  pub second_refused : (r : Refusal) → (convert_v2_call old).answer ≡ Err r → (convert_v2_call old).bench ≡ zero_bench_v3
  unfolding convert_v2_call
  second_refused r e = benched_refused tests_v2 (without_points old) zero_bench_v3 r e
