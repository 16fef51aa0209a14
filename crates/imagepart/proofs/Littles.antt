-- Numbers in bytes, the lowest byte first: how many bytes they have, that they are read back, what a loop that writes them leaves, and what a loop that reads them finds.
use Prim.Native.Nat.{ℕ, zero, suc, ◌+◌, ◌*◌, ◌-◌, ◌/◌, ◌%◌, ◌^◌, ◌≤◌, ◌<◌}
use mathlib.Core.List.{List, ◌∷◌, append_assoc}
use mathlib.Core.Path.{◌≡◌, refl, sym, ap, ◌∙◌}
use native.Mathlib.Nat.{pow-zero, pow-suc, pow-le-pow_right, div-lt_iff_lt-mul, mod-add-div}
use native.Mathlib.Numerals.{add-one}
use native.Mathlib.Omega.{arith}
use lib.ListN.{length, get_or, take, drop, set}
use lib.Seq.{take_all, drop-cons, drop-drop, paste, paste-suc}
use Rattle.equivalence.specs.Lent.{written, laid}
use Rattle.imagepart.specs.Parts.{little, little_in, part}
use Rattle.imagepart.specs.InnerSteps.{Laid}

pub little_length : (k x : ℕ) → length (little k x) ≡ k
unfolding little
little_length zero x = refl
little_length (suc k) x = ap suc (little_length k (x / 256))

-- ---- a number that fits is read back

pub little_in_little : (k x : ℕ) → x < 256 ^ k → little_in (little k x) ≡ x
unfolding little little_in
little_in_little zero x h = omega (arith, pow-zero 256)
little_in_little (suc k) x h =
    let fits : x < 256 ^ k * 256 = rw (pow-suc 256 k) at h in
    let less : x / 256 < 256 ^ k = (div-lt_iff_lt-mul {k = 256} {x = x} {y = 256 ^ k} (omega arith)).1 fits in
    rw (little_in_little k (x / 256) less) (mod-add-div x 256)

-- ---- writing

-- what is left of x after its i lowest bytes
abbrev left : ℕ → ℕ → ℕ
left zero x = x
left (suc i) x = left i (x / 256)

left_more : (i x : ℕ) → left (suc i) x ≡ left i x / 256
left_more zero x = refl
left_more (suc i) x = left_more i (x / 256)

little_at : (k i x : ℕ) → i < k → get_or (little k x) i 0 ≡ left i x % 256
unfolding little
little_at zero i x h = absurd (omega arith)
little_at (suc k) zero x h = refl
little_at (suc k) (suc i) x h = little_at k i (x / 256) (omega arith)

-- the i lowest of the k bytes of x are written from byte `to` on
pub record Writing (old : List ℕ) (to k x i rest : ℕ) (new : List ℕ) : Type 0 where
  pub within : i ≤ k
  pub remainder : rest ≡ left i x
  pub bytes : new ≡ paste old to (little k x) i

module _ (old : List ℕ) (to k x : ℕ) where
  pub writing_more : (i rest : ℕ) (new : List ℕ) → Writing old to k x i rest new → to + k ≤ length old → i < k
      → Writing old to k x (i + 1) (rest / 256) (set new (to + i) (rest % 256))
  writing_more i rest new w fits h =
      let v : rest % 256 ≡ get_or (little k x) i 0 = ap (λ (r : ℕ). r % 256) w.remainder ∙ sym (little_at k i x h) in
      record {
        within = omega arith;
        remainder = ap (λ (r : ℕ). r / 256) w.remainder ∙ sym (left_more i x) ∙ ap (λ (j : ℕ). left j x) (sym (add-one i));
        bytes = ap (λ (l : List ℕ). set l (to + i) (rest % 256)) w.bytes
            ∙ ap (λ (b : ℕ). set (paste old to (little k x) i) (to + i) b) v
            ∙ paste-suc old to (little k x) i 0 (omega arith) (omega (arith, little_length k x))
            ∙ ap (λ (j : ℕ). paste old to (little k x) j) (sym (add-one i));
      }

  pub writing_all : (i rest : ℕ) (new : List ℕ) → Writing old to k x i rest new → i ≡ k → Laid k (little k x) to old new
  unfolding laid written
  writing_all i rest new w e =
      record {
        long = little_length k x;
        bytes = w.bytes ∙ rw (e, take_all k (little k x) (omega (arith, little_length k x)), little_length k x, drop-drop k to old) (append_assoc (take to old) (little k x) (drop (to + k) old));
      }

-- ---- reading

part_cons : (l : List ℕ) (at k : ℕ) → at < length l → part at (suc k) l ≡ get_or l at 0 ∷ part (suc at) k l
unfolding part
part_cons l at k h = ap (λ (r : List ℕ). take (suc k) r) (drop-cons l at 0 h)

-- x is what the last of the k bytes from byte `from` on show, those from number i on
pub record Reading (l : List ℕ) (from k i x : ℕ) : Type 0 where
  pub within : i ≤ k
  pub value : x ≡ little_in (part (from + i) (k - i) l)
  pub small : x < 256 ^ (k - i)

module _ (l : List ℕ) (from k : ℕ) where
  pub reading_none : Reading l from k k 0
  unfolding little_in part
  reading_none =
      let e : k - k ≡ 0 = omega arith in
      record { within = omega arith; value = rw e refl; small = rw e (omega (arith, pow-zero 256)) }

  pub reading_more : (i x b : ℕ) → Reading l from k i x → from + k ≤ length l → 0 < i → b ≡ get_or l (from + (i - 1)) 0 → b < 256
      → Reading l from k (i - 1) (x * 256 + b)
  unfolding little_in
  reading_more i x b r fits h e small =
      let next : k - (i - 1) ≡ suc (k - i) = omega (arith, r.within) in
      let behind : suc (from + (i - 1)) ≡ from + i = omega arith in
      let v = r.value in
      let s = r.small in
      record {
        within = omega (arith, r.within);
        value = rw (next, part_cons l (from + (i - 1)) (k - i) (omega (arith, r.within)), behind, ← e, ← v) (omega arith);
        small = rw (next, pow-suc 256 (k - i)) (omega arith);
      }

  -- one byte more fits 64 bits
  pub reading_fits : (i x : ℕ) → Reading l from k i x → k ≤ 8 → 0 < i → x < 72057594037927936
  reading_fits i x r eight h =
      let most : 256 ^ (k - i) ≤ 72057594037927936 = pow-le-pow_right {n = 256} (omega arith) {i = k - i} {j = 7} (omega (arith, r.within)) in
      omega (arith, r.small)

  pub reading_all : (i x : ℕ) → Reading l from k i x → i ≡ 0 → (x ≡ little_in (part from k l)) × (x < 256 ^ k)
  reading_all i x r e =
      let start : from + i ≡ from = omega arith in
      let long : k - i ≡ k = omega arith in
      (rw (start, long) at r.value, rw long at r.small)
