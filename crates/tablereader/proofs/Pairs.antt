-- Two numbers of one digit or two, each with a gap behind it: what the flags of their lengths say of the bytes.
use Prim.Native.Nat.{ℕ, ◌+◌, ◌-◌, ◌*◌, ◌≤◌, ◌<◌}
use mathlib.Core.Bool.{Bool, true, false, not}
use mathlib.Core.List.{List}
use Rattle.std.specs.Prelude.{Option, Some, None}
use mathlib.Core.Path.{◌≡◌, refl, ap, sym, ◌∙◌}
use native.Mathlib.Omega.{arith}
use borrow.Author.Tests.{not-true, not-false, eqb-false}
use lib.Dec.{eqb}
use lib.ListN.{length, set}
use Rattle.kernel.specs.InnerKernel.{bit}
use Rattle.numberreader.specs.Reading.{byte_at}
use Rattle.numberreader.specs.Numbers.{digit_at}
use Rattle.numberreader.specs.InnerPromises.{is_digit}
use Rattle.tablereader.specs.InnerRows.{RowWithin, RowBegun, Digit, LongNumber, Item, TwoItems, PairRead, PairFound, PairBy, choose, ItemLength, value_of, Fits}
use Rattle.tablereader.specs.declared.rows.Pair.{Pair}
use Rattle.numberreader.proofs.Digits.{digit_below, digit_here, digit_low, digit_high, number_one, number_two}
use Rattle.numberreader.proofs.Readers.{within_text}
use Rattle.tablereader.proofs.Begun.{begun_room, begun_more}

-- where a test fails, nothing is said
pub untrue : {A : Type 0} → false ≡ true → A
untrue e = let z : ◌≡◌ {A = ℕ} 0 1 = cc in absurd (omega arith)

-- the digit at a place
digit_at_lem : (text : List ℕ) (at : ℕ) → Digit (byte_at text at) → byte_at text at - 48 ≡ digit_at text at
digit_at_lem text at d = sym (digit_here text at d.low d.high)

-- no digit
gap_at : (text : List ℕ) (at : ℕ) → byte_at text at ≡ 32 → 10 ≡ digit_at text at
gap_at text at e = sym (digit_below text at (omega arith))

-- what is chosen, and how long an item is
module _ (wide : Bool) where
  pub choose_first : (x y : ℕ) → wide ≡ true → x ≡ choose wide x y
  unfolding choose
  choose_first x y e = rw e

  pub choose_second : (x y : ℕ) → wide ≡ false → y ≡ choose wide x y
  unfolding choose
  choose_second x y e = rw e

  pub length_wide : wide ≡ true → ItemLength wide 3
  length_wide e = record { is = rw e; most = omega arith }

  pub length_narrow : wide ≡ false → ItemLength wide 2
  length_narrow e = record { is = rw e; most = omega arith }

  pub digit_of : (b : ℕ) → wide ≡ is_digit b → wide ≡ true → Digit b
  digit_of b e h = let k : not wide ≡ false = rw h in record { low = digit_low b wide e k; high = digit_high b wide e k }

-- the test of a first digit and the byte behind a number
module _ (wide : Bool) (a behind : ℕ) where
  pub fits_digit : (f : Bool) → (f ≡ true → Fits wide a behind) → not f ≡ false → Digit a
  fits_digit f e h = (e (not-false f h)).digit

  pub fits_not : false ≡ true → Fits wide a behind
  fits_not e = untrue e

  module _ (g : behind ≡ 32) (d : Bool) (ed : d ≡ is_digit a) (hd : not d ≡ false) where
    digit : Digit a
    digit = record { low = digit_low a d ed hd; high = digit_high a d ed hd }

    pub fits_narrow : not wide ≡ true → true ≡ true → Fits wide a behind
    fits_narrow h _ = record { digit = digit; some = λ e. untrue (sym (not-true wide h) ∙ e); gap = g }

    pub fits_wide : not (eqb a 48) ≡ true → Fits wide a behind
    fits_wide h = record { digit = digit; some = λ _. eqb-false a 48 (not-true (eqb a 48) h); gap = g }

-- a number by its first bytes, where the byte behind it fits
module _ (text : List ℕ) (at : ℕ) where
  pub narrow_item : Fits false (byte_at text at) (byte_at text (at + 1)) → Item text at (byte_at text at - 48) (at + 1)
  narrow_item f =
      record {
        read = record {
          value = number_one text at (byte_at text at - 48) (digit_at_lem text at f.digit) 10 (gap_at text (at + 1) f.gap) (omega (arith, f.digit)) (omega arith);
          within = omega (arith, within_text text (at + 1) (omega (arith, f.gap)));
          past = omega arith;
        };
        gap = f.gap;
      }

  wide_item : Digit (byte_at text (at + 1)) → Fits true (byte_at text at) (byte_at text (at + 2))
      → Item text at (10 * (byte_at text at - 48) + (byte_at text (at + 1) - 48)) (at + 2)
  wide_item d f =
      record {
        read = record {
          value =
              number_two text at (byte_at text at - 48) (digit_at_lem text at f.digit) (byte_at text (at + 1) - 48) (digit_at_lem text (at + 1) d) (omega (arith, f.digit))
              (λ z. f.some refl (omega (arith, f.digit))) 10 (gap_at text (at + 2) f.gap) (omega (arith, d)) (omega arith);
          within = omega (arith, within_text text (at + 2) (omega (arith, f.gap)));
          past = omega arith;
        };
        gap = f.gap;
      }

  item_by : (wide : Bool) (a b behind : ℕ) → a ≡ byte_at text at → b ≡ byte_at text (at + 1) → wide ≡ is_digit b → behind ≡ byte_at text (at + (1 + bit wide))
      → Fits wide a behind → Item text at (value_of wide a b) (at + (1 + bit wide))
  unfolding choose
  item_by true a b behind ea eb ew eg f = rw (ea, eb) (wide_item (rw eb at (digit_of true b ew refl)) (rw (ea, eg) at f))
  item_by false a b behind ea eb ew eg f = rw ea (narrow_item (rw (ea, eg) at f))

  -- a byte behind the first number
  behind_first : (wide : Bool) (j : ℕ) → choose wide (byte_at text (at + (j + 1))) (byte_at text (at + j)) ≡ byte_at text (at + (j + bit wide))
  unfolding choose
  behind_first true j = refl
  behind_first false j = let e : at + j ≡ at + (j + 0) = omega arith in ap (byte_at text) e

module _ (text : List ℕ) (at : ℕ) where
  module _ (wide : Bool) (a b : ℕ) (ea : a ≡ byte_at text at) (eb : b ≡ byte_at text (at + 1)) (ew : wide ≡ is_digit b)
      (c d : ℕ) (ec : c ≡ choose wide (byte_at text (at + 3)) (byte_at text (at + 2))) (ed : d ≡ choose wide (byte_at text (at + 4)) (byte_at text (at + 3)))
      (wide-too : Bool) (et : wide-too ≡ is_digit d) (l m : ℕ) (el : l ≡ 2 + bit wide) (em : m ≡ 2 + bit wide-too) where
    -- where the first number ends, and where the second does
    abbrev mid : ℕ
    mid = at + (1 + bit wide)

    abbrev end : ℕ
    end = at + (1 + bit wide) + 1 + (1 + bit wide-too)

    pub pair_found : (f : Bool) → (f ≡ true → Fits wide a (byte_at text (at + l - 1))) → not f ≡ false
        → (g : Bool) → (g ≡ true → Fits wide-too c (byte_at text (at + l + m - 1))) → not g ≡ false
        → (v w : ℕ) → v ≡ value_of wide a b → w ≡ value_of wide-too c d → TwoItems text at (record { first = v; second = w; next = at + l + m })
    pair_found f ef hf g eg hg v w ev ewv =
        let e₁ : at + l - 1 ≡ mid = omega arith in
        let e₂ : at + (2 + bit wide) ≡ mid + 1 = omega arith in
        let e₃ : at + (3 + bit wide) ≡ mid + 1 + 1 = omega arith in
        let e₄ : at + l + m - 1 ≡ end = omega arith in
        let one : Item text at v mid = rw ev (item_by text at wide a b (byte_at text (at + l - 1)) ea eb ew (ap (byte_at text) e₁) (ef (not-false f hf))) in
        let two : Item text (mid + 1) w end =
        rw ewv
        (item_by text (mid + 1) wide-too c d (byte_at text (at + l + m - 1)) (ec ∙ behind_first text at wide 2 ∙ ap (byte_at text) e₂)
        (ed ∙ behind_first text at wide 3 ∙ ap (byte_at text) e₃) et (ap (byte_at text) e₄) (eg (not-false g hg)))
        in
        record { mid = mid; end = end; one = one; two = two; last = omega arith }

-- a row with two numbers more
module _ (n : ℕ) (text : List ℕ) (at : ℕ) (lent : List ℕ) (put : ℕ) (cells : List ℕ) (more next so_far : ℕ) (b : RowBegun n text at lent put cells more next so_far)
    (p : 2 < more) (r : Pair) (t : TwoItems text next r) where
  after : RowBegun n text at lent put (set cells so_far r.first) (more - 1) (t.mid + 1) (so_far + 1)
  after = begun_more n text at lent put cells more next so_far b (omega arith) r.first t.mid t.one

  pub pair_room : so_far < length cells
  pair_room = begun_room n text at lent put cells more next so_far b (omega arith) r.first t.mid t.one

  pub pair_room_second : so_far + 1 < length (set cells so_far r.first)
  pair_room_second =
      begun_room n text at lent put (set cells so_far r.first) (more - 1) (t.mid + 1) (so_far + 1) after (omega arith) r.second t.end t.two

  pub pair_more : RowBegun n text at lent put (set (set cells so_far r.first) (so_far + 1) r.second) (more - 2) r.next (so_far + 2)
  pair_more =
      let e : more - 1 - 1 ≡ more - 2 = omega arith in
      let f : so_far + 1 + 1 ≡ so_far + 2 = omega arith in
      rw (← e, ← f, t.last)
      (begun_more n text at lent put (set cells so_far r.first) (more - 1) (t.mid + 1) (so_far + 1) after (omega arith) r.second t.end t.two)

-- the number of two digits, if both are digits and the byte behind them fits
pub long_number : (a b behind : ℕ) (d : Bool) → d ≡ is_digit b → not d ≡ false → (f : Bool) → (f ≡ true → Fits true a behind) → not f ≡ false
    → LongNumber a b behind (10 * (a - 48) + (b - 48))
long_number a b behind d ed hd f ef hf =
    let t : Fits true a behind = ef (not-false f hf) in
    record { first = t.digit; some = t.some refl; second = digit_of d b ed (not-false d hd); gap = t.gap; value = refl }

-- numbers of two digits
long_item : (text : List ℕ) (at r : ℕ) → LongNumber (byte_at text at) (byte_at text (at + 1)) (byte_at text (at + 2)) r → Item text at r (at + 2)
long_item text at r d =
    let f : Fits true (byte_at text at) (byte_at text (at + 2)) = record { digit = d.first; some = λ _. d.some; gap = d.gap } in
    rw d.value (wide_item text at d.second f)

pub long_found : (text : List ℕ) (at v w : ℕ) → LongNumber (byte_at text at) (byte_at text (at + 1)) (byte_at text (at + 2)) v
    → LongNumber (byte_at text (at + 3)) (byte_at text (at + 4)) (byte_at text (at + 5)) w
    → PairFound true text at (record { first = v; second = w; next = at + 6 })
long_found text at v w d e =
    let a : at + 3 ≡ at + 2 + 1 = omega arith in
    let b : at + 4 ≡ at + 2 + 1 + 1 = omega arith in
    let c : at + 5 ≡ at + 2 + 1 + 2 = omega arith in
    let two : Item text (at + 2 + 1) w (at + 2 + 1 + 2) = long_item text (at + 2 + 1) w (rw (a, b, c) at e) in
    record {
      read = record { mid = at + 2; end = at + 2 + 1 + 2; one = long_item text at v d; two = two; last = omega arith };
      within = λ _. omega arith;
    }

-- pairs of a row whose numbers each have two digits, or not
module _ (long : Bool) (text : List ℕ) where
  pub pair_long : (at : ℕ) (r : Option Pair) → long ≡ true → PairBy true text at r → PairBy long text at r
  pair_long at r e p = rw e p

  pub pair_mixed : (at : ℕ) (r : Option Pair) → long ≡ false → PairRead text at r → PairBy long text at r
  pair_mixed at None e p = tt
  pair_mixed at (Some r) e p = record { read = p; within = λ f. untrue (sym e ∙ f) }

  pub long_within : (at : ℕ) → RowWithin long 2 text at → long ≡ true → at + 6 ≤ length text
  long_within at w e = omega (arith, w.end e)

  module _ (more next : ℕ) (w : RowWithin long more text next) (p : 2 < more) where
    -- the next two are within the text
    pub within_two : RowWithin long 2 text next
    within_two = record { start = w.start; end = λ e. omega (arith, w.end e) }

    -- and so are those behind them
    pub within_more : (r : Pair) → PairFound long text next r → RowWithin long (more - 2) text r.next
    within_more r q =
        let t = q.read in
        record { start = omega (arith, t.last, within_text text t.end (omega (arith, t.two.gap))); end = λ e. omega (arith, w.end e, q.within e) }
