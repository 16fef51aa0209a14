-- The bench's answers: the tests of each call rise by rank, so a call is refused with the lowest reason among its tests, and only so; and
-- answers of one outcome are equal.
use Prim.Native.Nat.{ℕ}
use mathlib.Core.List.{List}
use mathlib.Core.Path.{refl, sym, ap}
use lib.Dec.{T}
use Rattle.std.specs.Prelude.{Ok, Err}
use Rattle.equivalence.specs.Outcome.{Injective}
use Rattle.equivalence.specs.Ranks.{rank, rises, ReasonRight}
use Rattle.equivalence.specs.Refusal.{Test, number_of, lowest, answered, size_test, elements_test}
use Rattle.equivalence.proofs.Ranks.{answered_reason}
use Rattle.algebra.specs.Accepted.{algebra_tests}
use Rattle.algebra.specs.Algebra.{Algebra}
use Rattle.equivalence.proofs.Outcomes.{refusal_injective, success_apart}
use Rattle.benchtests.specs.Tests.{sheet_test, bench_test, unknown_test, full_test, start_tests, place_tests, handed_tests}
use Rattle.bench.specs.Calls.{tally_test, benched, start_call, add_tests, add_call}
use Rattle.benchtests.specs.Tests.{clear_tests, set_tests, known_tests}
use Rattle.bench.specs.Calls.{clear_call, set_call, return_call, forget_call}
use Rattle.oldbenches.specs.OldKinds.{maps_test, convert_tests, convert_v1_call, convert_v2_call}
use Rattle.conversion.specs.Conversion.{faults_test, convert_v3_tests, convert_v3_call}
use Rattle.bench.specs.Outcome.{answer_outcome}
use Rattle.history.specs.Reasons.{BenchReasons}
use Rattle.bench.proofs.Calling.{benched_answer}
use Rattle.benchsheets.specs.declared.Bench.{Bench}
use Rattle.oldbenches.specs.declared.SheetV1.{SheetV1}
use Rattle.oldbenches.specs.declared.SheetV3.{SheetV3}

-- ---- the tests of each call rise

rises_start : (n : ℕ) → T (rises (start_tests n))
unfolding rises
rises_start n = tt

rises_add : (b : Bench) (a : Algebra) (k x y : ℕ) → T (rises (add_tests b a k x y))
unfolding rises rank number_of algebra_tests size_test elements_test handed_tests place_tests sheet_test bench_test tally_test
rises_add b a k x y = tt

rises_clear : (b : Bench) (k : ℕ) → T (rises (clear_tests b k))
unfolding rises rank number_of clear_tests size_test sheet_test bench_test
rises_clear b k = tt

rises_set : (b : Bench) (k : ℕ) (name : List ℕ) → T (rises (set_tests b k name))
unfolding rises rank number_of set_tests clear_tests size_test sheet_test bench_test full_test
rises_set b k name = tt

rises_known : (b : Bench) (k : ℕ) (name : List ℕ) → T (rises (known_tests b k name))
unfolding rises rank number_of known_tests clear_tests size_test sheet_test bench_test unknown_test
rises_known b k name = tt

rises_convert : (n : ℕ) (sheets : List SheetV1) → T (rises (convert_tests n sheets))
unfolding rises rank number_of convert_tests size_test maps_test
rises_convert n sheets = tt

rises_convert_v3 : (n : ℕ) (sheets : List SheetV3) → T (rises (convert_v3_tests n sheets))
unfolding rises rank number_of convert_v3_tests size_test faults_test
rises_convert_v3 n sheets = tt

-- ---- a call is refused with the lowest reason

benched_reason : {B : Type 0} (tests : List Test) (new other : B) → T (rises tests) → ReasonRight (benched tests new other).answer tests
benched_reason tests new other up = rw (benched_answer tests new other) (answered_reason tt tests up)

pub bench_reasons : BenchReasons
unfolding start_call add_call clear_call set_call return_call forget_call convert_v1_call convert_v2_call convert_v3_call
bench_reasons =
    record {
      start = λ n. benched_reason (start_tests n) _ _ (rises_start n);
      add = λ b a k x y. benched_reason (add_tests b a k x y) _ _ (rises_add b a k x y);
      clear = λ b k. benched_reason (clear_tests b k) _ _ (rises_clear b k);
      set_point = λ b k name. benched_reason (set_tests b k name) _ _ (rises_set b k name);
      return_to = λ b k name. benched_reason (known_tests b k name) _ _ (rises_known b k name);
      forget = λ b k name. benched_reason (known_tests b k name) _ _ (rises_known b k name);
      first = λ old. benched_reason (convert_tests old.n old.sheets) _ _ (rises_convert old.n old.sheets);
      second = λ old. benched_reason (convert_tests old.n old.sheets) _ _ (rises_convert old.n old.sheets);
      third = λ old. benched_reason (convert_v3_tests old.n old.sheets) _ _ (rises_convert_v3 old.n old.sheets);
    }

-- ---- answers of one outcome are equal

pub answer_outcome_injective : Injective answer_outcome
unfolding answer_outcome
answer_outcome_injective (Ok x) (Ok y) e = refl
answer_outcome_injective (Ok x) (Err r) e = absurd (success_apart 0 r e)
answer_outcome_injective (Err r) (Ok x) e = absurd (success_apart 0 r (sym e))
answer_outcome_injective (Err r) (Err s) e = ap Err (refusal_injective r s e)
