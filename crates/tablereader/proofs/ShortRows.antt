-- Rows of numbers of one digit: what a pass over their items finds, and one number more that is stored.
use Prim.Native.Nat.{ℕ, ◌+◌, ◌-◌, ◌*◌, ◌≤◌, ◌<◌}
use mathlib.Core.Bool.{Bool, true, false, not}
use mathlib.Core.List.{List}
use mathlib.Core.Path.{◌≡◌, ◌∙◌}
use native.Mathlib.Decide.{ℕ_discrete}
use native.Mathlib.Omega.{arith}
use borrow.Author.Tests.{not-false, leb-true}
use lib.Dec.{leb}
use lib.ListN.{length, set}
use Rattle.numberreader.specs.Reading.{byte_at}
use Rattle.tablereader.specs.InnerPromises.{RoomFor}
use Rattle.tablereader.specs.InnerRows.{RowBegun, TwoBytes, ShortItems, Item}
use Rattle.tablereader.proofs.Begun.{begun_none, begun_room, begun_more}
use Rattle.tablereader.proofs.Pairs.{narrow_item}

-- two bytes, as one number, lie between these
pub record Between (text : List ℕ) (at low high : ℕ) : Type 0 where
  pub above : low ≤ byte_at text at + 256 * byte_at text (at + 1)
  pub below : byte_at text at + 256 * byte_at text (at + 1) ≤ high
  pub first : byte_at text at ≤ 255

module _ (count : ℕ) (text : List ℕ) (at : ℕ) where
  -- so do the first i items
  pub record ItemsBetween (i low high : ℕ) : Type 0 where
    pub each : (j : ℕ) → j < i → Between text (at + 2 * j) low high

  pub between_none : (low high : ℕ) → ItemsBetween 0 low high
  between_none low high = record { each = λ j l. absurd (omega arith) }

  pub between_more : (i low high : ℕ) → ItemsBetween i low high → (r : ℕ) → TwoBytes text (at + 2 * i) r
      → (low' high' : ℕ) → (low' ≤ low) × (low' ≤ r) → (high ≤ high') × (r ≤ high') → ItemsBetween (i + 1) low' high'
  between_more i low high p r b low' high' l g =
      record {
        each = λ j s. elim (ℕ_discrete j i) [
          | yes e ↦ rw e (record { above = omega (arith, l.1, b.value); below = omega (arith, g.1, b.value); first = b.first })
          | no e ↦ let o = p.each j (omega arith) in
              record { above = omega (arith, l.0, o.above); below = omega (arith, g.0, o.below); first = o.first }
        ];
      }

  -- between a 0 and a 9, each with a gap behind it, lie numbers of one digit
  pub between_all : (i low high : ℕ) → ItemsBetween i low high → count ≤ i → 8240 ≤ low → leb high 8249 ≡ true → ShortItems count text at
  between_all i low high p h l g j s =
      let o = p.each j (omega arith) in
      let t = leb-true high 8249 g in
      let e : byte_at text (at + 2 * j + 1) ≡ 32 = omega (arith, o.above, o.below, o.first) in
      record {
        digit = record { low = omega (arith, o.above, e); high = omega (arith, o.below, e) };
        some = λ f. let z : ◌≡◌ {A = ℕ} 0 1 = cc in absurd (omega arith);
        gap = e;
      }

-- an item of such a row
module _ (count : ℕ) (text : List ℕ) (at : ℕ) (b : Bool) (eb : b ≡ true → ShortItems count text at) (hb : not b ≡ false) (i : ℕ) (h : i < count) where
  item : Item text (at + 2 * i) (byte_at text (at + 2 * i) - 48) (at + 2 * i + 1)
  item = narrow_item text (at + 2 * i) (eb (not-false b hb) i h)

  module _ (r : ℕ) (t : TwoBytes text (at + 2 * i) r) where
    pub item_low : 8240 ≤ r
    item_low = let f = eb (not-false b hb) i h in omega (arith, t.value, f.gap, f.digit.low)

    pub item_value : r - 8240 ≡ byte_at text (at + 2 * i) - 48
    item_value = let f = eb (not-false b hb) i h in omega (arith, t.value, f.gap, f.digit.low)

    pub item_small : r - 8240 < 256
    item_small = omega (arith, item_value, t.first)

  -- where i numbers are stored, one more
  module _ (n : ℕ) (ec : count ≡ n - 1) (lent : List ℕ) (put : ℕ) (cells : List ℕ) (p : RowBegun n text at lent put cells (n - i) (at + 2 * i) (put + i)) where
    pub short_room : put + i < length cells
    short_room = begun_room n text at lent put cells (n - i) (at + 2 * i) (put + i) p (omega arith) (byte_at text (at + 2 * i) - 48) (at + 2 * i + 1) item

    pub short_more : (r : ℕ) → TwoBytes text (at + 2 * i) r → (v : ℕ) → v ≡ r - 8240 → RowBegun n text at lent put (set cells (put + i) v) (n - (i + 1)) (at + 2 * (i + 1)) (put + (i + 1))
    short_more r t v ev =
        let q = begun_more n text at lent put cells (n - i) (at + 2 * i) (put + i) p (omega arith) (byte_at text (at + 2 * i) - 48) (at + 2 * i + 1) item in
        let e₁ : n - i - 1 ≡ n - (i + 1) = omega arith in
        let e₂ : at + 2 * i + 1 + 1 ≡ at + 2 * (i + 1) = omega arith in
        let e₃ : put + i + 1 ≡ put + (i + 1) = omega arith in
        rw (ev ∙ item_value r t, ← e₁, ← e₂, ← e₃) q

-- none is stored, and all are
module _ (n : ℕ) (text : List ℕ) (at : ℕ) (lent : List ℕ) (put : ℕ) where
  pub short_none : RoomFor n text at lent put → 0 < n → RowBegun n text at lent put lent (n - 0) (at + 2 * 0) (put + 0)
  short_none w p =
      let e₁ : n - 0 ≡ n = omega arith in
      let e₂ : at + 2 * 0 ≡ at = omega arith in
      let e₃ : put + 0 ≡ put = omega arith in
      rw (e₁, e₂, e₃) (begun_none n text at lent put w p)

  pub short_all : (count : ℕ) → count ≡ n - 1 → 0 < n → (cells : List ℕ) (i : ℕ) → RowBegun n text at lent put cells (n - i) (at + 2 * i) (put + i) → i ≤ count → count ≤ i
      → RowBegun n text at lent put cells 1 (at + 2 * count) (put + count)
  short_all count ec p cells i b l g =
      let e : i ≡ count = omega arith in
      let m : n - count ≡ 1 = omega arith in
      rw m at (rw e at b)
