-- The text's length, summed up: digits of the first numbers, brackets and gaps of the first arities.
use Prim.Native.Nat.{ℕ, zero, suc, ◌+◌, ◌*◌, ◌≤◌, ◌<◌}
use mathlib.Core.List.{List, [], ◌∷◌, ◌++◌}
use mathlib.Core.Path.{◌≡◌, refl, ap, ◌∙◌}
use native.Mathlib.Decide.{dec_lt}
use native.Mathlib.Nat.{mul-zero, mul-le-mul}
use native.Mathlib.Numerals.{add-one}
use native.Mathlib.Omega.{arith}
use lib.ListN.{length, get_or, take, length-append, get_or-append}
use lib.Seq.{take-suc, take_all, get_or-append-add}
use Rattle.writer.specs.InnerRoom.{NumbersBelow}
use Rattle.algebra.specs.Algebra.{algebra_of, cell_count}
use Rattle.writer.specs.Numerals.{decimal}
use Rattle.writer.proofs.Lengths.{one_digit_long, two_digits_long}
use Rattle.tablewriter.specs.Texts.{algebra_text}
use Rattle.tablewriter.specs.InnerLengths.{frame, frames, figures, Measurable}
use Rattle.tablewriter.proofs.TextLengths.{figures_append, text_length}

-- two digits at most below 100
pub digits_few : (v : ℕ) → v < 100 → length (decimal v) ≤ 2
digits_few v h =
    elim (dec_lt v 10) [
      | yes l ↦ omega (arith, one_digit_long v l)
      | no l ↦ omega (arith, two_digits_long v (omega arith) h)
    ]

-- numbers below 100 have two digits each at most
pub figures_few : (m : List ℕ) → NumbersBelow 100 m → figures m ≤ 2 * length m
unfolding figures
figures_few [] h = omega arith
figures_few (x ∷ rest) h = omega (arith, digits_few x (h 0 (omega arith)), figures_few rest (λ i l. h (suc i) (omega arith)))

-- the second digits of the first i numbers are counted
pub record Counted (m : List ℕ) (count i : ℕ) : Type 0 where
  pub passed : i ≤ length m
  pub value : count + i ≡ figures (take i m)
  pub few : count ≤ i

module _ (m : List ℕ) (short : NumbersBelow 100 m) where
  pub second_none : Counted m 0 0
  unfolding figures
  second_none = record { passed = omega arith; value = refl; few = omega arith }

  pub second_more : (count i d : ℕ) → Counted m count i → i < length m → d + 1 ≡ length (decimal (get_or m i 0)) → Counted m (count + d) (i + 1)
  unfolding figures
  second_more count i d p h e =
      record {
        passed = omega arith;
        value = rw (add-one i, take-suc m i 0 h, figures_append (take i m) (get_or m i 0 ∷ [])) (omega (arith, p.value, e));
        few = omega (arith, p.few, e, digits_few (get_or m i 0) (short i h));
      }

  pub second_short : (i : ℕ) → i < length m → get_or m i 0 < 100
  second_short i h = short i h

  pub second_all : (count i : ℕ) → Counted m count i → length m ≤ i → count + length m ≡ figures m
  second_all count i p h = let e : i ≡ length m = omega (arith, p.passed) in omega (arith, p.value, ap figures (take_all i m h))

-- the second digits of all numbers are counted but those of the rest
pub record CountedBefore (m : List ℕ) (count : ℕ) (rest : List ℕ) : Type 0 where
  pub value : count + length m + figures rest ≡ figures m + length rest
  pub few : count + length rest ≤ length m
  pub short : NumbersBelow 100 rest

-- the rest begins with a part
module _ (m : List ℕ) (count : ℕ) (rest part next : List ℕ) (p : CountedBefore m count rest) (e : rest ≡ part ++ next) where
  long : length rest ≡ length part + length next
  long = ap length e ∙ length-append part next

  pub part_short : NumbersBelow 100 part
  part_short i l =
      let h : get_or rest i 0 < 100 = p.short i (omega (arith, long)) in
      rw (e, get_or-append part next 0 i l) at h

  next_short : NumbersBelow 100 next
  next_short i l =
      let h : get_or rest (length part + i) 0 < 100 = p.short (length part + i) (omega (arith, long)) in
      rw (e, get_or-append-add part next i 0) at h

  -- the numbers with two digits of a part more
  pub parts_more : (d : ℕ) → d + length part ≡ figures part → CountedBefore m (count + d) next
  parts_more d g =
      record {
        value = omega (arith, p.value, g, long, ap figures e, figures_append part next);
        few = omega (arith, p.few, g, long, figures_few part part_short);
        short = next_short;
      }

pub parts_all : (m : List ℕ) (count : ℕ) (rest : List ℕ) → CountedBefore m count rest → length rest ≡ 0 → count + length m ≡ figures m
unfolding figures
parts_all m count [] p z = omega (arith, p.value)
parts_all m count (x ∷ rest) p z = absurd (omega arith)

-- the brackets and gaps of a table stay small
frame_next : (n s b : ℕ) → n ≤ 64 → frame n s ≤ b → frame n (suc s) ≤ 64 * b + 65
unfolding frame
frame_next n s b h l = omega (arith, mul-le-mul {n₂ = 64} {m₂ = b} h l)

pub frame_small : (n s : ℕ) → n ≤ 64 → s ≤ 3 → frame n s ≤ 270465
unfolding frame
frame_small n zero h l = omega arith
frame_small n (suc zero) h l = omega (arith, frame_next n 0 0 h (omega arith))
frame_small n (suc (suc zero)) h l = omega (arith, frame_next n 1 65 h (frame_next n 0 0 h (omega arith)))
frame_small n (suc (suc (suc zero))) h l = frame_next n 2 4225 h (frame_next n 1 65 h (frame_next n 0 0 h (omega arith)))
frame_small n (suc (suc (suc (suc s)))) h l = absurd (omega arith)

-- those of a table of arity s, summed up from the arity below
pub record Framed (n sum s : ℕ) : Type 0 where
  pub value : sum ≡ frame n s
  pub product : n * sum ≤ 64 * 270465

module _ (n : ℕ) (most : n ≤ 64) where
  pub framed_none : Framed n 0 0
  unfolding frame
  framed_none = record { value = refl; product = omega (arith, mul-zero n) }

  pub framed_more : (sum s : ℕ) → Framed n sum s → s < 3 → Framed n (n * sum + (n + 1)) (s + 1)
  unfolding frame
  framed_more sum s p h =
      let e : n * sum + (n + 1) ≡ frame n (s + 1) = rw (add-one s, p.value) in
      record { value = e; product = mul-le-mul {n₂ = 64} {m₂ = 270465} most (omega (arith, e, frame_small n (s + 1) most (omega arith))) }

  pub framed_all : (sum s arity : ℕ) → Framed n sum s → s ≤ arity → arity ≤ s → sum ≡ frame n arity
  framed_all sum s arity p l h = let e : s ≡ arity = omega arith in rw e at p.value

frames_append : (n : ℕ) (xs ys : List ℕ) → frames n (xs ++ ys) ≡ frames n xs + frames n ys
unfolding frames
frames_append n [] ys = omega arith
frames_append n (x ∷ xs) ys = omega (arith, frames_append n xs ys)

-- the size line, the digits of all cells, and the brackets and gaps of the first j arities
pub record Summed (n : ℕ) (arities cells : List ℕ) (sum j : ℕ) : Type 0 where
  pub passed : j ≤ length arities
  pub value : sum ≡ 8 + length (decimal n) + figures cells + frames n (take j arities)
  pub small : sum ≤ 10 + 65536 + 270473 * j

module _ (n : ℕ) (arities cells : List ℕ) (m : Measurable n arities cells) where
  pub summed_none : (d f : ℕ) → d + 1 ≡ length (decimal n) → f + length cells ≡ figures cells → Summed n arities cells (9 + d + length cells + f) 0
  unfolding frames
  summed_none d f e g =
      record {
        passed = omega arith;
        value = omega arith;
        small = omega (arith, digits_few n (omega (arith, m.tables.most)), figures_few cells m.short, m.few);
      }

  pub summed_next : (sum j f : ℕ) → Summed n arities cells sum j → j < length arities → f ≡ frame n (get_or arities j 0) → Summed n arities cells (sum + 8 + f) (j + 1)
  unfolding frames
  summed_next sum j f p h e =
      record {
        passed = omega arith;
        value =
            rw (add-one j, take-suc arities j 0 h, frames_append n (take j arities) (get_or arities j 0 ∷ [])) (omega (arith, p.value, e));
        small = omega (arith, p.small, e, frame_small n (get_or arities j 0) m.tables.most (m.tables.arity j h));
      }

  pub summed_text : (sum j : ℕ) → Summed n arities cells sum j → length arities ≤ j → sum ≡ length (algebra_text (algebra_of n arities cells))
  summed_text sum j p h =
      omega (
        arith,
        p.value,
        ap (frames n) (take_all j arities h),
        text_length n m.tables.some arities cells m.tables,
        ap figures (take_all (cell_count n arities) cells (omega (arith, m.all))),
      )
