-- The conversion of the third kind: its tests, and those of the older kinds, as Clear tests a bench of the sheets that they become; and what it gives by that.
use Prim.Native.Nat.{ℕ, ◌<◌}
use mathlib.Core.Bool.{Bool, true, false, not, ◌&&◌}
use mathlib.Core.List.{List, [], ◌∷◌, map}
use mathlib.Core.Path.{◌≡◌, refl, sym, ap, ◌∙◌}
use native.Mathlib.Omega.{arith}
use lib.ListN.{take}
use borrow.Author.Tests.{eq-eqb}
use Rattle.std.specs.Prelude.{⊤, Result, Ok, Err}
use Rattle.equivalence.specs.Equivalence.{is_map}
use Rattle.equivalence.specs.Lists.{every, up_to}
use Rattle.equivalence.specs.Refusal.{Test, lowest, size_test, answered}
use Rattle.equivalence.proofs.Tests.{pick}
use Rattle.equivalence.specs.declared.Refusal.{Refusal}
use Rattle.equivalence.specs.declared.Refusal.TheVariants.{NotMap}
use Rattle.sheet.specs.Points.{is_faultless}
use Rattle.sheet.specs.Sheet.{map_on}
use Rattle.sheet.specs.declared.Sheet.{Sheet}
use Rattle.benchtests.specs.Tests.{bench_test, clear_tests}
use Rattle.benchsheets.specs.State.{zero_bench}
use Rattle.benchtests.proofs.Testing.{sheet_next}
use Rattle.bench.proofs.Calling.{benched_answer, benched_done, benched_refused}
use Rattle.benchsheets.specs.declared.Bench.{Bench}
use Rattle.oldbenches.specs.OldKinds.{maps_test, convert_tests, unpointed}
use Rattle.conversion.specs.Conversion.{untallied, map_alone, with_tallies, faults_test, convert_v3_tests, convert_v3_call}
use Rattle.oldbenches.specs.declared.BenchV3.{BenchV3}
use Rattle.oldbenches.specs.declared.SheetV1.{SheetV1}
use Rattle.oldbenches.specs.declared.SheetV3.{SheetV3}

-- ---- as Clear tests a bench of the sheets that they become

-- a test before others that find the same
lowest_behind : (t : Test) (ts us : List Test) → lowest ts ≡ lowest us → lowest (t ∷ ts) ≡ lowest (t ∷ us)
unfolding lowest
lowest_behind t ts us e = ap (λ (c : Result ⊤ Refusal). pick t.applies (Err t.reason) c) e

-- sheets of any kind that are asked what 8 asks of those that they become: the tests are Clear's but for 7, which no sheet below 8 draws
module _ {A : Type 0} (of : A → Sheet) (n : ℕ) (isRight : A → Bool) (each : (s : A) → is_faultless n (of s) ≡ isRight s) (b : Bench) (e : b.n ≡ n) where
  every_old : (sheets : List A) → every (is_faultless n) (map of sheets) ≡ every isRight sheets
  unfolding every
  every_old [] = refl
  every_old (s ∷ rest) = rw (each s, every_old rest)

  module _ (sheets : List A) (f : b.sheets ≡ map of sheets) where
    abbrev right_test : Test
    right_test = record { applies = not (every isRight sheets); reason = NotMap }

    old_bench : lowest (right_test ∷ []) ≡ lowest (bench_test n b ∷ [])
    unfolding lowest bench_test
    old_bench = simp (eq-eqb b.n n e, f, every_old sheets)

    old_clear : (k : ℕ) → k < 8 → lowest (size_test n ∷ right_test ∷ []) ≡ lowest (clear_tests b k)
    unfolding clear_tests
    old_clear k h = lowest_behind (size_test n) _ _ (old_bench ∙ sym (sheet_next k _ h)) ∙ rw (sym e) refl

and_yes : (b : Bool) → (b && true) ≡ b
and_yes true = refl
and_yes false = refl

alone_faultless : (n : ℕ) (s : SheetV1) → is_faultless n (map_alone s) ≡ is_map n (take n s.map)
unfolding is_faultless untallied unpointed map_on up_to every
alone_faultless n s = and_yes (is_map n (take n s.map))

pub convert_clear : (n : ℕ) (sheets : List SheetV1) (b : Bench) → b.n ≡ n → b.sheets ≡ map map_alone sheets → (k : ℕ) → k < 8
    → lowest (convert_tests n sheets) ≡ lowest (clear_tests b k)
unfolding convert_tests maps_test
convert_clear n sheets b e f k h = old_clear map_alone n _ (alone_faultless n) b e sheets f k h

pub convert_v3_clear : (n : ℕ) (sheets : List SheetV3) (b : Bench) → b.n ≡ n → b.sheets ≡ map untallied sheets → (k : ℕ) → k < 8
    → lowest (convert_v3_tests n sheets) ≡ lowest (clear_tests b k)
unfolding convert_v3_tests faults_test
convert_v3_clear n sheets b e f k h = old_clear untallied n (λ s. is_faultless n (untallied s)) (λ s. refl) b e sheets f k h

-- ---- the conversion, by what the tests found

module _ (old : BenchV3) where
  abbrev tests_v3 : List Test
  tests_v3 = convert_v3_tests old.n old.sheets

  -- it tests the bench that it makes as Clear does
  module _ (b : Bench) (m : b ≡ with_tallies old) {check : Result ⊤ Refusal} (s : check ≡ lowest (clear_tests b 0)) where
    pub found_v3 : check ≡ lowest tests_v3
    unfolding with_tallies
    found_v3 = s ∙ sym (convert_v3_clear old.n old.sheets b (ap (λ (b : Bench). b.n) m) (ap (λ (b : Bench). b.sheets) m) 0 (omega arith))

  -- its answer is that of the tests
  pub third_answer : (convert_v3_call old).answer ≡ answered Err (lowest tests_v3) (Ok tt)
  unfolding convert_v3_call
  third_answer = benched_answer tests_v3 (with_tallies old) zero_bench

  -- and what it gives is known by that
  pub third_done : (convert_v3_call old).answer ≡ Ok tt → (convert_v3_call old).bench ≡ with_tallies old
  unfolding convert_v3_call
  third_done e = benched_done tests_v3 (with_tallies old) zero_bench e

  pub third_refused : (r : Refusal) → (convert_v3_call old).answer ≡ Err r → (convert_v3_call old).bench ≡ zero_bench
  unfolding convert_v3_call
  third_refused r e = benched_refused tests_v3 (with_tallies old) zero_bench r e
