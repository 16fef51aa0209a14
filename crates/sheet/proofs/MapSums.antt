-- Sums of bytes, and the test of a map by them: where no byte is above its index, the bytes of the names are at most the names, and the two sums are
-- equal only where these are.
use Prim.Native.Nat.{ℕ, zero, suc, ◌+◌, ◌≤◌, ◌<◌}
use mathlib.Core.Bool.{false}
use mathlib.Core.Path.{◌≡◌, refl, sym, ap, ◌∙◌}
use native.Mathlib.Decide.{dec_lt, ℕ_discrete}
use native.Mathlib.Numerals.{add-one}
use native.Mathlib.Omega.{arith}
use lib.Dec.{eqb}
use lib.ListN.{length}
use borrow.Author.Tests.{lt-ltb, le-ltb, eq-eqb, ne_eqb}
use Rattle.kernel.specs.InnerKernel.{bit}
use Rattle.equivalence.specs.Equivalence.{Map, byte, is_map}
use Rattle.equivalence.proofs.Maps.{is_map_of, of_is_map}
use Rattle.equivalence.proofs.Tests.{true_is, false_is}
use Rattle.sheet.specs.InnerSums.{sum, exceeding}

-- ---- a loop that adds

pub sum_more : (f : ℕ → ℕ) (x : ℕ) {total r : ℕ} → total ≡ sum x f → r ≡ f x → total + r ≡ sum (x + 1) f
unfolding sum
sum_more f x e g = rw (add-one x, sum, e, g) refl

-- ---- sums compared

module _ (f g : ℕ → ℕ) where
  sum_le : (n : ℕ) → ((x : ℕ) → x < n → g x ≤ f x) → sum n g ≤ sum n f
  unfolding sum
  sum_le zero h = omega arith
  sum_le (suc n) h = omega (arith, sum_le n (λ x l. h x (omega arith)), h n (omega arith))

  sum_same : (n : ℕ) → ((x : ℕ) → x < n → g x ≡ f x) → sum n g ≡ sum n f
  unfolding sum
  sum_same zero h = refl
  sum_same (suc n) h = omega (arith, sum_same n (λ x l. h x (omega arith)), h n (omega arith))

  of_sum_same : (n : ℕ) → ((x : ℕ) → x < n → g x ≤ f x) → sum n g ≡ sum n f → (x : ℕ) → x < n → g x ≡ f x
  unfolding sum
  of_sum_same zero h e x l = absurd (omega arith)
  of_sum_same (suc n) h e x l =
      let below : sum n g ≤ sum n f = sum_le n (λ y k. h y (omega arith)) in
      let last : g n ≤ f n = h n (omega arith) in
      elim (ℕ_discrete x n) [
        | yes q ↦ rw q (omega arith)
        | no q ↦ of_sum_same n (λ y k. h y (omega arith)) (omega arith) x (omega arith)
      ]

sum_zeros : (n : ℕ) → sum n (λ x. 0) ≡ 0
unfolding sum
sum_zeros zero = refl
sum_zeros (suc n) = omega (arith, sum_zeros n)

-- ---- how many values are above

module _ (f : ℕ → ℕ) where
  exceeding_no : (x : ℕ) → f x ≤ x → 0 ≡ exceeding f x
  unfolding exceeding
  exceeding_no x h = sym (ap bit (le-ltb x (f x) h))

  of_exceeding_no : (x : ℕ) → 0 ≡ exceeding f x → f x ≤ x
  unfolding exceeding
  of_exceeding_no x e = elim (dec_lt x (f x)) [ yes l ↦ absurd (omega (arith, ap bit (lt-ltb x (f x) l))) | no l ↦ omega arith ]

  pub none_exceeding : (n : ℕ) {count : ℕ} → count ≡ sum n (exceeding f) → count ≡ 0 → (x : ℕ) → x < n → f x ≤ x
  none_exceeding n e z x l = of_exceeding_no x (of_sum_same (exceeding f) (λ y. 0) n (λ y k. omega arith) (sum_zeros n ∙ sym z ∙ e) x l)

-- ---- the test

module _ (n : ℕ) (m : Map) {count : ℕ} (e : count ≡ sum n (exceeding (byte m))) where
  pub is_map_exceeding : ¬ (count ≡ 0) → false ≡ is_map n m
  is_map_exceeding h =
      false_is _ (λ t. h (e ∙ sym (sum_same (exceeding (byte m)) (λ x. 0) n (λ x l. exceeding_no (byte m) x ((of_is_map n m t).low x l))) ∙ sum_zeros n))

  pub is_map_sums : count ≡ 0 → length m ≡ n → {a b : ℕ} → a ≡ sum n (λ x. byte m (byte m x)) → b ≡ sum n (byte m) → eqb a b ≡ is_map n m
  is_map_sums z long {a} {b} s t =
      elim (ℕ_discrete a b) [
        | yes p ↦ eq-eqb a b p ∙ true_is _ (is_map_of n m (record { long = long; low = low; named = of_sum_same _ _ n shrinks (sym s ∙ p ∙ t) }))
        | no p ↦ ne_eqb a b p ∙ false_is _ (λ u. p (s ∙ sum_same _ _ n (of_is_map n m u).named ∙ sym t))
      ]
    where
      low : (x : ℕ) → x < n → byte m x ≤ x
      low = none_exceeding (byte m) n e z

      shrinks : (x : ℕ) → x < n → byte m (byte m x) ≤ byte m x
      shrinks x l = low (byte m x) (omega (arith, low x l))
