-- The tests of the bench's calls, as the functions make them, and what they leave where they pass.
use Prim.Native.Nat.{ℕ, ◌≤◌, ◌<◌}
use mathlib.Core.Bool.{Bool, true, false, not, ◌||◌}
use mathlib.Core.List.{List, [], ◌∷◌, ◌++◌}
use mathlib.Core.Logic.{inl, inr}
use mathlib.Core.Path.{◌≡◌, sym, ap, ◌∙◌}
use native.Mathlib.Decide.{dec_lt}
use native.Mathlib.Omega.{arith}
use lib.Dec.{T, T_not, eqb, ltb, eqb→eq, ltb→lt, lt→ltb}
use lib.ListN.{length}
use borrow.Author.Tests.{le-ltb, eq-eqb, ne_eqb, not-true, not-false}
use Rattle.std.specs.Prelude.{⊤, Result, Ok, Err, IsErrAnd}
use Rattle.equivalence.specs.Lists.{every}
use Rattle.equivalence.specs.Refusal.{Test, lowest, size_test, elements_test}
use Rattle.equivalence.proofs.Refusals.{lowest_none, lowest_next, lowest_here, of_passed, of_size_test, size_refused, size_passed, handed_on, lowest_append, lowest_failed, passed_append}
use Rattle.equivalence.proofs.Tests.{T_of, not_T_of, or_left, or_right, or_cases}
use Rattle.equivalence.specs.declared.Refusal.{Refusal}
use Rattle.equivalence.specs.declared.Refusal.TheVariants.{Size, Range, NotMap}
use Rattle.algebra.specs.Accepted.{algebra_tests, Accepted}
use Rattle.algebra.specs.Algebra.{Algebra}
use Rattle.sheet.specs.Points.{is_held, is_full_for, is_faultless}
use Rattle.sheet.specs.Sheet.{no_sheet}
use Rattle.sheet.proofs.Faults.{of_faultless, Faultless as SheetFaultless}
use Rattle.benchtests.specs.Tests.{sheet_test, bench_test, unknown_test, full_test, start_tests, place_tests, handed_tests, clear_tests, set_tests, known_tests}
use Rattle.benchsheets.specs.State.{sheet_of}
use Rattle.benchsheets.proofs.BenchSheets.{of_every_at}
use Rattle.benchsheets.specs.declared.Bench.{Bench}

no_or_left : (a b : Bool) → ¬ T (a || b) → ¬ T a
no_or_left a b h t = h (or_left a b t)

no_or_right : (a b : Bool) → ¬ T (a || b) → ¬ T b
no_or_right a b h t = h (or_right a b t)

no_not : (b : Bool) → ¬ T (not b) → T b
no_not true h = tt
no_not false h = absurd (h tt)

-- what Start's test leaves
pub start_passed : (n : ℕ) → lowest (start_tests n) ≡ Ok tt → n ≤ 64
start_passed n e = (of_size_test n (of_passed _ _ e).0).1

sheet_passed : (k : ℕ) → ¬ T (sheet_test k).applies → k < 8
unfolding sheet_test
sheet_passed k h = elim (dec_lt 7 k) [ yes z ↦ absurd (h (lt→ltb 7 k z)) | no z ↦ omega arith ]

elements_passed : (n x y : ℕ) → ¬ T (elements_test n x y).applies → (x < n) × (y < n)
unfolding elements_test
elements_passed n x y h = (
  ltb→lt x n (no_not (ltb x n) (no_or_left (not (ltb x n)) (not (ltb y n)) h)),
  ltb→lt y n (no_not (ltb y n) (no_or_right (not (ltb x n)) (not (ltb y n)) h)),
)

-- ---- Clear's and Add's tests as the functions make them

-- 7 and the last test, 8
module _ (k : ℕ) (rest : List Test) where
  sheet_failed : 8 ≤ k → lowest (sheet_test k ∷ rest) ≡ Err Range
  unfolding sheet_test
  sheet_failed h = lowest_here (sheet_test k) rest (lt→ltb 7 k (omega arith))

  pub sheet_next : k < 8 → lowest (sheet_test k ∷ rest) ≡ lowest rest
  unfolding sheet_test
  sheet_next h = lowest_next (sheet_test k) rest (λ t. omega (arith, ltb→lt 7 k t))

module _ (n x y : ℕ) (rest : List Test) where
  first_failed : n ≤ x → lowest (elements_test n x y ∷ rest) ≡ Err Range
  unfolding elements_test
  first_failed h = lowest_here (elements_test n x y) rest (or_left (not (ltb x n)) _ (T_of (ap not (le-ltb x n h))))

  second_failed : n ≤ y → lowest (elements_test n x y ∷ rest) ≡ Err Range
  unfolding elements_test
  second_failed h = lowest_here (elements_test n x y) rest (or_right (not (ltb x n)) _ (T_of (ap not (le-ltb y n h))))

  elements_next : x < n → y < n → lowest (elements_test n x y ∷ rest) ≡ lowest rest
  unfolding elements_test
  elements_next h k =
      lowest_next (elements_test n x y) rest (λ t. elim (or_cases (not (ltb x n)) (not (ltb y n)) t) [
        | inl s ↦ T_not (ltb x n) s (lt→ltb x n h)
        | inr s ↦ T_not (ltb y n) s (lt→ltb y n k)
      ])

module _ (b : Bench) (k : ℕ) {flag : Bool} (s : flag ≡ not (size_test b.n).applies) where
  pub clear_unsized : not flag ≡ true → Err Size ≡ lowest (clear_tests b k)
  unfolding clear_tests
  clear_unsized f = sym (size_refused b.n _ s f)

  module _ (f : not flag ≡ false) where
    pub clear_sheetless : 8 ≤ k → Err Range ≡ lowest (clear_tests b k)
    unfolding clear_tests
    clear_sheetless h = sym (size_passed b.n _ s f ∙ sheet_failed k _ h)

    pub clear_last : k < 8 → {check : Result ⊤ Refusal} → check ≡ lowest (bench_test b.n b ∷ []) → check ≡ lowest (clear_tests b k)
    unfolding clear_tests
    clear_last h e = e ∙ sym (size_passed b.n _ s f ∙ sheet_next k _ h)

module _ (b : Bench) (n k x y : ℕ) where
  pub place_sheetless : 8 ≤ k → Err Range ≡ lowest (place_tests b n k x y)
  unfolding place_tests
  place_sheetless h = sym (sheet_failed k _ h)

  module _ (h : k < 8) where
    pub place_first : n ≤ x → Err Range ≡ lowest (place_tests b n k x y)
    unfolding place_tests
    place_first i = sym (sheet_next k _ h ∙ first_failed n x y _ i)

    pub place_second : n ≤ y → Err Range ≡ lowest (place_tests b n k x y)
    unfolding place_tests
    place_second i = sym (sheet_next k _ h ∙ second_failed n x y _ i)

    pub place_last : x < n → y < n → {check : Result ⊤ Refusal} → check ≡ lowest (bench_test n b ∷ []) → check ≡ lowest (place_tests b n k x y)
    unfolding place_tests
    place_last i j e = e ∙ sym (sheet_next k _ h ∙ elements_next n x y _ i j)

-- 8 alone
module _ (n : ℕ) (b : Bench) where
  pub bench_other : (b.n ≡ n → ⊥) → Err NotMap ≡ lowest (bench_test n b ∷ [])
  unfolding lowest bench_test
  bench_other h = simp (ne_eqb b.n n h)

  module _ (h : b.n ≡ n) {flag : Bool} (s : flag ≡ every (is_faultless n) b.sheets) where
    pub bench_faulty : not flag ≡ true → Err NotMap ≡ lowest (bench_test n b ∷ [])
    unfolding lowest bench_test
    bench_faulty f = simp (eq-eqb b.n n h, sym s ∙ not-true flag f)

    pub bench_right : not flag ≡ false → Ok tt ≡ lowest (bench_test n b ∷ [])
    unfolding lowest bench_test
    bench_right f = simp (eq-eqb b.n n h, sym s ∙ not-false flag f)

-- tests behind others, by what those found
module _ (ts rest : List Test) {check : Result ⊤ Refusal} (s : check ≡ lowest ts) where
  pub behind_failed : {r : Refusal} → check ≡ Err r → {answer : Result ⊤ Refusal} → IsErrAnd answer (λ e. e ≡ r) → answer ≡ lowest (ts ++ rest)
  behind_failed e h = handed_on h ∙ sym (lowest_failed _ _ _ (sym s ∙ e))

  pub behind_passed : check ≡ Ok tt → {last : Result ⊤ Refusal} → last ≡ lowest rest → last ≡ lowest (ts ++ rest)
  behind_passed e f = f ∙ sym (lowest_append _ _ (sym s ∙ e))

-- one test more, by its flag
module _ (ts : List Test) (t : Test) {check : Result ⊤ Refusal} (s : check ≡ lowest ts) (e : check ≡ Ok tt) {flag : Bool} (f : flag ≡ t.applies) where
  pub more_applies : flag ≡ true → Err t.reason ≡ lowest (ts ++ (t ∷ []))
  more_applies g = behind_passed ts _ s e (sym (lowest_here t [] (T_of (sym f ∙ g))))

  pub more_passes : flag ≡ false → Ok tt ≡ lowest (ts ++ (t ∷ []))
  more_passes g = behind_passed ts _ s e (sym (lowest_next t [] (not_T_of (sym f ∙ g)) ∙ lowest_none))

-- ---- what tests that pass leave

-- the bench is over n and no sheet has a fault
pub record Faultless (b : Bench) (n : ℕ) : Type 0 where
  pub size : b.n ≡ n
  pub sheets : (k : ℕ) → k < length b.sheets → SheetFaultless n (sheet_of b k)

bench_passed : (n : ℕ) (b : Bench) → ¬ T (bench_test n b).applies → Faultless b n
unfolding bench_test sheet_of
bench_passed n b h =
    let right : Bool = every (is_faultless n) b.sheets in
    record {
      size = eqb→eq b.n n (no_not (eqb b.n n) (no_or_left (not (eqb b.n n)) (not right) h));
      sheets = λ k l. of_faultless n _ (of_every_at (is_faultless n) b.sheets no_sheet (no_not right (no_or_right (not (eqb b.n n)) (not right) h)) k l);
    }

-- what Clear's tests leave
pub record Clearable (b : Bench) (k : ℕ) : Type 0 where
  pub some : 1 ≤ b.n
  pub most : b.n ≤ 64
  pub sheet : k < 8
  pub faultless : Faultless b b.n

pub clear_passed : (b : Bench) (k : ℕ) → lowest (clear_tests b k) ≡ Ok tt → Clearable b k
unfolding clear_tests
clear_passed b k e =
    let first = of_passed _ _ e in
    let one = of_size_test b.n first.0 in
    let seven = of_passed _ _ first.1 in
    record { some = one.0; most = one.1; sheet = sheet_passed k seven.0; faultless = bench_passed b.n b (of_passed _ _ seven.1).0 }

-- what Add's 7 and 8 leave
pub record Placed (b : Bench) (n k x y : ℕ) : Type 0 where
  pub sheet : k < 8
  pub first : x < n
  pub second : y < n
  pub faultless : Faultless b n

place_passed : (b : Bench) (n k x y : ℕ) → lowest (place_tests b n k x y) ≡ Ok tt → Placed b n k x y
unfolding place_tests
place_passed b n k x y e =
    let seven = of_passed _ _ e in
    let pair = of_passed _ _ seven.1 in
    let ends = elements_passed n x y pair.0 in
    record { sheet = sheet_passed k seven.0; first = ends.0; second = ends.1; faultless = bench_passed n b (of_passed _ _ pair.1).0 }

-- what Add's tests leave
pub record Addable (b : Bench) (a : Algebra) (k x y : ℕ) : Type 0 where
  pub accepted : Accepted a
  pub placed : Placed b a.size k x y

pub add_passed : (b : Bench) (a : Algebra) (k x y : ℕ) → lowest (handed_tests b a k x y) ≡ Ok tt → Addable b a k x y
unfolding handed_tests Accepted
add_passed b a k x y e =
    let p = passed_append (algebra_tests a) (place_tests b a.size k x y) e in
    record { accepted = p.0; placed = place_passed b a.size k x y p.1 }

-- what Set's tests leave
pub set_passed : (b : Bench) (k : ℕ) (name : List ℕ) → lowest (set_tests b k name) ≡ Ok tt → Clearable b k × (¬ T (is_full_for name (sheet_of b k)))
unfolding set_tests full_test
set_passed b k name e = let p = passed_append (clear_tests b k) _ e in (clear_passed b k p.0, (of_passed _ _ p.1).0)

-- what Return's and Forget's tests leave
pub known_passed : (b : Bench) (k : ℕ) (name : List ℕ) → lowest (known_tests b k name) ≡ Ok tt → Clearable b k × T (is_held name (sheet_of b k))
unfolding known_tests unknown_test
known_passed b k name e =
    let p = passed_append (clear_tests b k) _ e in
    (clear_passed b k p.0, no_not (is_held name (sheet_of b k)) (of_passed _ _ p.1).0)
