-- The largest member of a list: the laws of the loop that finds it.
use Prim.Native.Nat.{ℕ, ◌+◌, ◌-◌, ◌≤◌, ◌<◌}
use mathlib.Core.List.{List}
use mathlib.Core.Path.{◌≡◌}
use native.Mathlib.Decide.{dec_lt, ℕ_discrete}
use native.Mathlib.Omega.{arith}
use lib.ListN.{get_or}
use Rattle.kernel.specs.InnerLargest.{Larger, Largest}

-- ---- the first members

pub largest_none : (s : List ℕ) → Largest 0 s 0
largest_none s = record { above = λ j l. absurd (omega arith); least = λ k l h. l }

pub largest_more : {i r r' : ℕ} (s : List ℕ) → Larger r (get_or s i 0) r' → Largest i s r → Largest (i + 1) s r'
largest_more {i} s x h = record {
  above = λ j l. elim (ℕ_discrete j i) [ yes e ↦ rw e x.right | no e ↦ omega (arith, h.above j (omega arith), x.left) ];
  least = λ k l b. x.least k (h.least k l (λ j lj. b j (omega arith))) (b i (omega arith));
}

-- all members
pub largest_all : {i n r : ℕ} {s : List ℕ} → i ≤ n → n ≤ i → Largest i s r → Largest n s r
largest_all {i} {n} l k h = let e : i ≡ n = omega arith in rw e at h

-- one member behind the first ones
pub largest_last : {i n r r' : ℕ} {s : List ℕ} → i < n → n < i + 2 → Larger r (get_or s i 0) r' → Largest i s r → Largest n s r'
largest_last {s} l k x h = largest_all (omega arith) (omega arith) (largest_more s x h)

-- ---- two halves

-- r is the largest of the i members from `half` on, or 0
pub record LargestFrom (half i : ℕ) (s : List ℕ) (r : ℕ) : Type 0 where
  pub above : (j : ℕ) → j < i → get_or s (half + j) 0 ≤ r
  pub least : (k : ℕ) → 0 < k → ((j : ℕ) → j < i → get_or s (half + j) 0 < k) → r < k

pub back_none : (half : ℕ) (s : List ℕ) → LargestFrom half 0 s 0
back_none half s = record { above = λ j l. absurd (omega arith); least = λ k l h. l }

pub back_more : {half i r r' : ℕ} (s : List ℕ) → Larger r (get_or s (half + i) 0) r' → LargestFrom half i s r → LargestFrom half (i + 1) s r'
back_more {half} {i} s x h = record {
  above = λ j l. elim (ℕ_discrete j i) [ yes e ↦ rw e x.right | no e ↦ omega (arith, h.above j (omega arith), x.left) ];
  least = λ k l b. x.least k (h.least k l (λ j lj. b j (omega arith))) (b i (omega arith));
}

-- the loop's end
pub largest_halves : {i half front back r : ℕ} {s : List ℕ} → i ≤ half → half ≤ i → Larger front back r → Largest i s front → LargestFrom half i s back
    → Largest (half + half) s r
largest_halves {i} {half} {front} {back} {r} {s} l k x f b =
    record {
      above = λ j h. elim (dec_lt j half) [
        | yes q ↦ omega (arith, f.above j (omega arith), x.left)
        | no q ↦ let e : half + (j - half) ≡ j = omega arith in
            let there : get_or s (half + (j - half)) 0 ≤ back = b.above (j - half) (omega arith) in
            let here : get_or s j 0 ≤ back = rw e at there in
            omega (arith, x.right)
      ];
      least = λ k p h. x.least k (f.least k p (λ j q. h j (omega arith))) (b.least k p (λ j q. h (half + j) (omega arith)));
    }

-- a bound on the largest is one on each
pub largest_most : {n r : ℕ} {s : List ℕ} → Largest n s r → (k : ℕ) → r ≤ k → (i : ℕ) → i < n → get_or s i 0 ≤ k
largest_most h k l i j = omega (arith, h.above i j)
