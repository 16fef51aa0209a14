-- Sheets are independent: Add makes the same tests on two benches without faults that share their n and the sheet, and it gives one sheet.
use Prim.Native.Nat.{ℕ, ◌<◌}
use mathlib.Core.Bool.{true}
use mathlib.Core.List.{List}
use mathlib.Core.Path.{◌≡◌, refl, sym, ap, ◌∙◌}
use native.Mathlib.Decide.{ℕ_discrete}
use native.Mathlib.Omega.{arith}
use lib.ListN.{length}
use borrow.Author.Tests.{ne_eqb}
use Rattle.std.specs.Prelude.{⊤, Result, Ok, Err}
use Rattle.algebra.specs.Algebra.{Algebra}
use Rattle.equivalence.specs.Lists.{every}
use Rattle.equivalence.specs.Refusal.{Test, lowest, answered}
use Rattle.equivalence.proofs.Refusals.{passed_append}
use Rattle.equivalence.proofs.Tests.{true_is}
use Rattle.sheet.specs.Points.{is_faultless}
use Rattle.benchtests.specs.Tests.{bench_test, place_tests, handed_tests}
use Rattle.bench.specs.Calls.{add_tests, map_by_add, lost_by_add, sheet_by_add, add_call}
use Rattle.benchsheets.specs.State.{sheet_of, with_sheet}
use Rattle.benchsheets.proofs.BenchSheets.{with_sheet_same}
use Rattle.benchtests.proofs.Testing.{add_passed}
use Rattle.bench.proofs.Calling.{benched_passed, benched_failed, benched_answer}
use Rattle.benchsheets.specs.declared.Bench.{Bench}
use Rattle.history.specs.Independence.{AllFaultless, ShareSheet, IndependenceTheorem}
use Rattle.equivalence.specs.declared.Refusal.{Refusal}

faultless_over : (b : Bench) → AllFaultless b → {n : ℕ} → b.n ≡ n → every (is_faultless n) b.sheets ≡ true
faultless_over b f e = ap (λ (n : ℕ). every (is_faultless n) b.sheets) (sym e) ∙ sym (true_is (every (is_faultless b.n) b.sheets) f.sheets)

module _ (k : ℕ) (b other : Bench) (shared : ShareSheet k b other) (f : AllFaultless b) (g : AllFaultless other) (a : Algebra) (x y : ℕ) where
  -- 8 applies to both, where the algebra is over another n, or to neither
  bench_same : bench_test a.size b ≡ bench_test a.size other
  unfolding bench_test
  bench_same =
      elim (ℕ_discrete b.n a.size) [
        | yes e ↦ let h : other.n ≡ a.size = sym shared.size ∙ e in
            rw (e, h, faultless_over b f e, faultless_over other g h) refl
        | no e ↦ rw (ne_eqb b.n a.size e, ne_eqb other.n a.size (λ h. e (shared.size ∙ h))) refl
      ]

  tests_same : add_tests b a k x y ≡ add_tests other a k x y
  unfolding handed_tests place_tests lost_by_add map_by_add
  tests_same = rw (bench_same, shared.sheet) refl

  sheet_same : sheet_by_add b a k x y ≡ sheet_by_add other a k x y
  unfolding sheet_by_add lost_by_add map_by_add
  sheet_same = rw shared.sheet refl

  answer_same : (add_call b a k x y).answer ≡ (add_call other a k x y).answer
  unfolding add_call
  answer_same =
      benched_answer (add_tests b a k x y) _ b
      ∙ ap (λ (ts : List Test). answered Err (lowest ts) (Ok tt)) tests_same
      ∙ sym (benched_answer (add_tests other a k x y) _ other)

  -- sheet k after an accepted Add, and after a refused one
  module _ (c : Bench) (eight : length c.sheets ≡ 8) where
    sheet_accepted : lowest (add_tests c a k x y) ≡ Ok tt → sheet_of (add_call c a k x y).bench k ≡ sheet_by_add c a k x y
    unfolding add_call
    sheet_accepted e =
        let l : k < 8 = (add_passed c a k x y (passed_append (handed_tests c a k x y) _ e).0).placed.sheet in
        rw (benched_passed (add_tests c a k x y) (with_sheet c k (sheet_by_add c a k x y)) c e) (with_sheet_same c k (sheet_by_add c a k x y) (omega (arith, eight, l)))

  result_same : sheet_of (add_call b a k x y).bench k ≡ sheet_of (add_call other a k x y).bench k
  unfolding add_call
  result_same = by (lowest (add_tests b a k x y)) refl
    where
      by : (c : Result ⊤ Refusal) → lowest (add_tests b a k x y) ≡ c → sheet_of (add_call b a k x y).bench k ≡ sheet_of (add_call other a k x y).bench k
      by (Ok x) e = sheet_accepted b f.eight e ∙ sheet_same ∙ sym (sheet_accepted other g.eight (rw tests_same at e))
      by (Err r) e =
          rw (benched_failed (add_tests b a k x y) _ b r e, benched_failed (add_tests other a k x y) _ other r (rw tests_same at e)) shared.sheet

pub independence_theorem : IndependenceTheorem
independence_theorem k b other shared f g a x y = record { answer = answer_same k b other shared f g a x y; sheet = result_same k b other shared f g a x y }
