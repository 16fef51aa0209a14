-- The laws of lists that a loop collects: one element after another, and how many there are.
use Prim.Native.Nat.{ℕ, zero, suc, ◌+◌, ◌≤◌, ◌<◌}
use mathlib.Core.Bool.{Bool, true, false, not}
use mathlib.Core.Path.{◌≡◌, refl, sym, ap, ◌∙◌}
use native.Mathlib.Decide.{ℕ_discrete}
use native.Mathlib.Numerals.{add-one}
use native.Mathlib.Omega.{arith}
use lib.Dec.{eqb}
use Rattle.kernel.proofs.Names.{bit_most}
use Rattle.kernel.specs.InnerKernel.{bit, names}
use Rattle.closure.specs.InnerStarts.{Pushed, count_of, Collected}

pub collected_none : (test : ℕ → Bool) (p : ℕ → ℕ) → Collected test 0 p 0
unfolding count_of
collected_none test p = record { small = λ i l. absurd (omega arith); right = λ i l. absurd (omega arith); all = λ x l. absurd (omega arith); once = λ i j l k. absurd (omega arith); count = refl }

count_of_more : (test : ℕ → Bool) (x : ℕ) → count_of test (x + 1) ≡ count_of test x + bit (test x)
unfolding count_of
count_of_more test x = rw (add-one x)

module _ (test : ℕ → Bool) {x k k' : ℕ} {p p' : ℕ → ℕ} (h : Collected test x p k) where
  wanted_more : test x ≡ true → Pushed x true p k p' k' → Collected test (x + 1) p' k'
  wanted_more t d = record {
    small = λ i l. elim (ℕ_discrete i k) [
      | yes e ↦ let z : p' i ≡ x = ap p' e ∙ d.new refl in omega arith
      | no e ↦ let j : i < k = omega (arith, d.count) in omega (arith, d.kept i j, h.small i j)
    ];
    right = λ i l. elim (ℕ_discrete i k) [
      | yes e ↦ ap test (ap p' e ∙ d.new refl) ∙ t
      | no e ↦ let j : i < k = omega (arith, d.count) in ap test (d.kept i j) ∙ h.right i j
    ];
    all = λ y l s. elim (ℕ_discrete y x) [
      | yes e ↦ (k, (omega (arith, d.count), d.new refl ∙ sym e))
      | no e ↦ let r = h.all y (omega arith) s in (r.0, (omega (arith, r.1.0, d.count), d.kept r.0 r.1.0 ∙ r.1.1))
    ];
    once = λ i j l lj e. elim (ℕ_discrete j k) [
      | yes z ↦ let li : i < k = omega arith in
          let y : p' j ≡ x = ap p' z ∙ d.new refl in
          absurd (omega (arith, d.kept i li, h.small i li))
      | no z ↦ let lk : j < k = omega (arith, d.count) in h.once i j l lk (sym (d.kept i (omega arith)) ∙ e ∙ d.kept j lk)
    ];
    count = omega (arith, d.count, h.count, count_of_more test x, ap bit t);
  }

  other_more : test x ≡ false → Pushed x false p k p' k' → Collected test (x + 1) p' k'
  other_more t d = record {
    small = λ i l. let j : i < k = omega (arith, d.count) in omega (arith, d.kept i j, h.small i j);
    right = λ i l. let j : i < k = omega (arith, d.count) in ap test (d.kept i j) ∙ h.right i j;
    all = λ y l s. elim (ℕ_discrete y x) [
      | yes e ↦ let c : true ≡ false = sym s ∙ ap test e ∙ t in let z : ◌≡◌ {A = ℕ} 0 1 = cc in absurd (omega arith)
      | no e ↦ let r = h.all y (omega arith) s in (r.0, (omega (arith, r.1.0, d.count), d.kept r.0 r.1.0 ∙ r.1.1))
    ];
    once = λ i j l lj e. let lk : j < k = omega (arith, d.count) in h.once i j l lk (sym (d.kept i (omega arith)) ∙ e ∙ d.kept j lk);
    count = omega (arith, d.count, h.count, count_of_more test x, ap bit t);
  }

  by_answer : (b : Bool) → test x ≡ b → Pushed x b p k p' k' → Collected test (x + 1) p' k'
  by_answer true t d = wanted_more t d
  by_answer false t d = other_more t d

  pub collected_more : Pushed x (test x) p k p' k' → Collected test (x + 1) p' k'
  collected_more d = by_answer (test x) refl d

count_of_most : (test : ℕ → Bool) (n : ℕ) → count_of test n ≤ n
unfolding count_of
count_of_most test zero = omega arith
count_of_most test (suc n) = omega (arith, count_of_most test n, bit_most (test n))

pub collected_most : {test : ℕ → Bool} {n k : ℕ} {p : ℕ → ℕ} → Collected test n p k → k ≤ n
collected_most {test} {n} h = omega (arith, h.count, count_of_most test n)

-- the names of a map, and the others
pub count_of_names : (f : ℕ → ℕ) (n : ℕ) → count_of (λ x. eqb (f x) x) n ≡ names n f
unfolding count_of names
count_of_names f zero = refl
count_of_names f (suc n) = omega (arith, count_of_names f n)

bit_not : (b : Bool) → bit b + bit (not b) ≡ 1
bit_not true = refl
bit_not false = refl

pub count_of_others : (f : ℕ → ℕ) (n : ℕ) → count_of (λ x. not (eqb (f x) x)) n + names n f ≡ n
unfolding count_of names
count_of_others f zero = refl
count_of_others f (suc n) = omega (arith, count_of_others f n, bit_not (eqb (f n) n))

-- ---- one push

pub names_total : (f : ℕ → ℕ) {n k : ℕ} {p : ℕ → ℕ} → Collected (λ x. eqb (f x) x) n p k → 0 + names n f ≡ k
names_total f {n} h = omega (arith, h.count, count_of_names f n)

pub others_total : (f : ℕ → ℕ) {n k : ℕ} {p : ℕ → ℕ} → Collected (λ x. not (eqb (f x) x)) n p k → k + names n f ≡ n
others_total f {n} h = omega (arith, h.count, count_of_others f n)
