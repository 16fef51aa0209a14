-- Digits and numbers: what stands at a place decides what `number` finds there.
use Prim.Native.Nat.{ℕ, ◌+◌, ◌-◌, ◌*◌, ◌≤◌, ◌<◌}
use mathlib.Core.Bool.{Bool, true, false, not, ◌&&◌}
use mathlib.Core.List.{List}
use mathlib.Core.Path.{◌≡◌, refl, ap, sym, ◌∙◌}
use native.Mathlib.Decide.{ℕ_discrete}
use native.Mathlib.Omega.{arith}
use borrow.Author.Tests.{leb-true, not-true, not-false, lt-ltb, le-ltb, le-leb, lt-leb, eq-eqb, ne_eqb}
use lib.Dec.{leb}
use lib.ListN.{length}
use Rattle.numberreader.specs.Reading.{found, fault, byte_at}
use Rattle.numberreader.specs.Numbers.{digit_at, number}
use Rattle.numberreader.specs.InnerPromises.{is_digit, NumberFound}
use Rattle.numberreader.proofs.Readers.{within_text}

module _ (text : List ℕ) (at : ℕ) where
  pub digit_below : byte_at text at < 48 → digit_at text at ≡ 10
  unfolding digit_at
  digit_below h = simp (digit_at, lt-leb 48 (byte_at text at) h)

  pub digit_above : 57 < byte_at text at → digit_at text at ≡ 10
  unfolding digit_at
  digit_above h = simp (digit_at, le-leb 48 (byte_at text at) (omega arith), lt-leb (byte_at text at) 57 h)

  pub digit_here : 48 ≤ byte_at text at → byte_at text at ≤ 57 → digit_at text at ≡ byte_at text at - 48
  unfolding digit_at
  digit_here h k = simp (digit_at, le-leb 48 (byte_at text at) h, le-leb (byte_at text at) 57 k)

-- what `number` finds, by the digits a, b and c that stand from a place on
module _ (text : List ℕ) (at a : ℕ) (ea : a ≡ digit_at text at) where
  pub number_none : 9 < a → number text at ≡ fault
  unfolding number
  number_none h = simp (number, ← ea, lt-ltb 9 a h)

  pub number_zero : a ≤ 9 → a ≡ 0 → number text at ≡ found 0 (at + 1)
  unfolding number
  number_zero h z = simp (number, ← ea, le-ltb 9 a h, eq-eqb a 0 z)

  module _ (b : ℕ) (eb : b ≡ digit_at text (at + 1)) (h : a ≤ 9) where
    pub number_one : 9 < b → number text at ≡ found a (at + 1)
    unfolding number
    number_one k =
        elim (ℕ_discrete a 0) [
          | yes z ↦ number_zero h z ∙ ap (λ (v : ℕ). found v (at + 1)) (sym z)
          | no z ↦ simp (number, ← ea, ← eb, le-ltb 9 a h, ne_eqb a 0 z, lt-ltb 9 b k)
        ]

    module _ (z : a ≡ 0 → ⊥) (c : ℕ) (ec : c ≡ digit_at text (at + 2)) (k : b ≤ 9) where
      pub number_two : 9 < c → number text at ≡ found (10 * a + b) (at + 2)
      unfolding number
      number_two l = simp (number, ← ea, ← eb, ← ec, le-ltb 9 a h, ne_eqb a 0 z, le-ltb 9 b k, lt-ltb 9 c l)

      pub number_large : c ≤ 9 → 255 < 10 * (10 * a + b) + c → number text at ≡ fault
      unfolding number
      number_large l m =
          simp (number, ← ea, ← eb, ← ec, le-ltb 9 a h, ne_eqb a 0 z, le-ltb 9 b k, le-ltb 9 c l, lt-ltb 255 (100 * a + 10 * b + c) (omega arith))

      pub number_three : c ≤ 9 → 10 * (10 * a + b) + c ≤ 255 → number text at ≡ found (10 * (10 * a + b) + c) (at + 3)
      unfolding number
      number_three l m =
          let e : 100 * a + 10 * b + c ≡ 10 * (10 * a + b) + c = omega arith in
          simp (number, ← ea, ← eb, ← ec, le-ltb 9 a h, ne_eqb a 0 z, le-ltb 9 b k, le-ltb 9 c l, e, le-ltb 255 (10 * (10 * a + b) + c) m)

-- a byte that is a digit
module _ (b : ℕ) where
  module _ (d : Bool) (e : d ≡ is_digit b) (h : not d ≡ false) where
    both : (p q : Bool) → (p && q) ≡ true → (p ≡ true) × (q ≡ true)
    both true q k = (refl, k)
    both false q k = let z : ◌≡◌ {A = ℕ} 0 1 = cc in absurd (omega arith)

    tests : (leb 48 b ≡ true) × (leb b 57 ≡ true)
    unfolding is_digit
    tests = both (leb 48 b) (leb b 57) (sym e ∙ not-false d h)

    pub digit_low : 48 ≤ b
    digit_low = leb-true 48 b tests.0

    pub digit_high : b ≤ 57
    digit_high = leb-true b 57 tests.1

-- what that says of the digit at a place
module _ (text : List ℕ) (at b : ℕ) (eb : b ≡ byte_at text at) (d : Bool) (e : d ≡ is_digit b) where
  digit_none : not d ≡ true → 10 ≡ digit_at text at
  unfolding digit_at is_digit
  digit_none h = sym (simp (digit_at, ← eb, ← e, not-true d h))

  digit_some : not d ≡ false → b - 48 ≡ digit_at text at
  digit_some h = omega (arith, digit_here text at (omega (arith, digit_low b d e h)) (omega (arith, digit_high b d e h)))

-- and where the reader of numbers comes to, by the bytes x, y and z from a place on, and whether each is a digit
module _ (text : List ℕ) (at x : ℕ) (ex : x ≡ byte_at text at) (p : Bool) (ep : p ≡ is_digit x) where
  pub no_digit : not p ≡ true → number text at ≡ fault
  no_digit h = number_none text at 10 (digit_none text at x ex p ep h) (omega arith)

  module _ (hp : not p ≡ false) (y : ℕ) (ey : y ≡ byte_at text (at + 1)) (q : Bool) (eq : q ≡ is_digit y) where
    a : x - 48 ≡ digit_at text at
    a = digit_some text at x ex p ep hp

    first : at < length text
    first = within_text text at (omega (arith, digit_low x p ep hp))

    one : x - 48 ≤ 9
    one = omega (arith, digit_high x p ep hp)

    pub one_digit : not q ≡ true → NumberFound text at (number text at) (record { value = x - 48; next = at + 1 })
    one_digit h =
        record {
          within = omega (arith, first);
          past = omega arith;
          value = number_one text at (x - 48) a 10 (digit_none text (at + 1) y ey q eq h) one (omega arith);
        }

    pub digit_zero : x ≡ 48 → NumberFound text at (number text at) (record { value = 0; next = at + 1 })
    digit_zero h =
        record { within = omega (arith, first); past = omega arith; value = number_zero text at (x - 48) a one (omega arith) }

    module _ (hq : not q ≡ false) (h : x ≡ 48 → ⊥) (z : ℕ) (ez : z ≡ byte_at text (at + 2)) (r : Bool) (er : r ≡ is_digit z) where
      b : y - 48 ≡ digit_at text (at + 1)
      b = digit_some text (at + 1) y ey q eq hq

      second : at + 1 < length text
      second = within_text text (at + 1) (omega (arith, digit_low y q eq hq))

      two : y - 48 ≤ 9
      two = omega (arith, digit_high y q eq hq)

      some : x - 48 ≡ 0 → ⊥
      some e = h (omega (arith, digit_low x p ep hp))

      pub two_digits : not r ≡ true → NumberFound text at (number text at) (record { value = 10 * (x - 48) + (y - 48); next = at + 2 })
      two_digits k =
          record {
            within = omega (arith, second);
            past = omega arith;
            value = number_two text at (x - 48) a (y - 48) b one some 10 (digit_none text (at + 2) z ez r er k) two (omega arith);
          }

      module _ (hr : not r ≡ false) where
        c : z - 48 ≡ digit_at text (at + 2)
        c = digit_some text (at + 2) z ez r er hr

        three : z - 48 ≤ 9
        three = omega (arith, digit_high z r er hr)

        pub too_large : 255 < 10 * (10 * (x - 48) + (y - 48)) + (z - 48) → number text at ≡ fault
        too_large m = number_large text at (x - 48) a (y - 48) b one some (z - 48) c two three m

        pub three_digits : 10 * (10 * (x - 48) + (y - 48)) + (z - 48) ≤ 255
            → NumberFound text at (number text at) (record { value = 10 * (10 * (x - 48) + (y - 48)) + (z - 48); next = at + 3 })
        three_digits m =
            record {
              within = omega (arith, within_text text (at + 2) (omega (arith, digit_low z r er hr)));
              past = omega arith;
              value = number_three text at (x - 48) a (y - 48) b one some (z - 48) c two three m;
            }
