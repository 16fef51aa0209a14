-- Reading and writing numbers agree: what is read as v is what v is written as, and what v is written as is read as v.
use Prim.Native.Nat.{ℕ, ◌+◌, ◌*◌, ◌/◌, ◌%◌, ◌≤◌, ◌<◌}
use mathlib.Core.Bool.{true}
use mathlib.Core.List.{List, [], ◌∷◌}
use mathlib.Core.Path.{◌≡◌, refl, ap, sym, ◌∙◌}
use native.Mathlib.Decide.{dec_lt, ℕ_discrete}
use native.Mathlib.Omega.{arith}
use borrow.Author.Tests.{eq-eqb, eqb-true}
use lib.Dec.{eqb}
use lib.ListN.{length}
use Rattle.numberreader.specs.Reading.{Read, found, fault, byte_at, begins}
use Rattle.numberreader.specs.Numbers.{digit_at, number}
use Rattle.numberreader.proofs.Digits.{digit_below, digit_above, digit_here, number_none, number_zero, number_one, number_two, number_large, number_three}
use Rattle.writer.specs.Numerals.{decimal}
use Rattle.writer.proofs.Digits.{decimal_one, decimal_two, decimal_three}
use Rattle.numberreader.proofs.Words.{and_left, and_right}

-- a digit's byte
digit_byte : (text : List ℕ) (at : ℕ) → digit_at text at ≤ 9 → byte_at text at ≡ 48 + digit_at text at
digit_byte text at h =
    elim (dec_lt (byte_at text at) 48) [
      | yes l ↦ absurd (omega (arith, digit_below text at l))
      | no l ↦ elim (dec_lt 57 (byte_at text at)) [
        | yes k ↦ absurd (omega (arith, digit_above text at k))
        | no k ↦ omega (arith, digit_here text at (omega arith) (omega arith))
      ]
    ]

-- what is found is the number that stands there in base ten, without leading zeros and at most 255
abbrev Stands : List ℕ → ℕ → Read ℕ → Type 0
Stands text at (found v next) = (v ≤ 255) × (begins text at (decimal v) ≡ true) × (next ≡ at + length (decimal v))
Stands text at fault = Unit {0}

one_stands : (text : List ℕ) (at a : ℕ) → a ≡ digit_at text at → a ≤ 9 → Stands text at (found a (at + 1))
unfolding begins
one_stands text at a e h =
    rw (decimal_one a (omega arith)) (omega arith, simp (eq-eqb (byte_at text at) (48 + a) (omega (arith, digit_byte text at (omega arith)))), refl)

two_stand : (text : List ℕ) (at a b : ℕ) → a ≡ digit_at text at → b ≡ digit_at text (at + 1) → 0 < a → a ≤ 9 → b ≤ 9 → Stands text at (found (10 * a + b) (at + 2))
unfolding begins
two_stand text at a b ea eb p h k =
    let v = 10 * a + b in
    let tens = eq-eqb (byte_at text at) (48 + v / 10) (omega (arith, digit_byte text at (omega arith))) in
    let ones = eq-eqb (byte_at text (at + 1)) (48 + v % 10) (omega (arith, digit_byte text (at + 1) (omega arith))) in
    rw (decimal_two v (omega arith) (omega arith)) (
      omega arith,
      simp (tens, ones),
      refl,
    )

three_stand : (text : List ℕ) (at a b c : ℕ) → a ≡ digit_at text at → b ≡ digit_at text (at + 1) → c ≡ digit_at text (at + 2) → 0 < a → a ≤ 9 → b ≤ 9 → c ≤ 9
    → 10 * (10 * a + b) + c ≤ 255 → Stands text at (found (10 * (10 * a + b) + c) (at + 3))
unfolding begins
three_stand text at a b c ea eb ec p h k l m =
    let v = 10 * (10 * a + b) + c in
    let e : at + 1 + 1 ≡ at + 2 = omega arith in
    rw (decimal_three v (omega arith) (omega arith)) (
      m,
      simp (
        eq-eqb (byte_at text at) (48 + v / 100) (omega (arith, digit_byte text at (omega arith))),
        eq-eqb (byte_at text (at + 1)) (48 + v / 10 % 10) (omega (arith, digit_byte text (at + 1) (omega arith))),
        e,
        eq-eqb (byte_at text (at + 2)) (48 + v % 10) (omega (arith, digit_byte text (at + 2) (omega arith))),
      ),
      refl,
    )

-- what is read as v is what v is written as
pub number_stands : (text : List ℕ) (at : ℕ) → Stands text at (number text at)
number_stands text at =
    let a = digit_at text at in
    let b = digit_at text (at + 1) in
    let c = digit_at text (at + 2) in
    elim (dec_lt 9 a) [
      | yes h ↦ rw (number_none text at a refl h) tt
      | no h ↦ elim (ℕ_discrete a 0) [
        | yes z ↦ rw (number_zero text at a refl (omega arith) z) (one_stands text at 0 (sym z) (omega arith))
        | no z ↦ elim (dec_lt 9 b) [
          | yes k ↦ rw (number_one text at a refl b refl (omega arith) k) (one_stands text at a refl (omega arith))
          | no k ↦ elim (dec_lt 9 c) [
            | yes l ↦ rw (number_two text at a refl b refl (omega arith) z c refl (omega arith) l) (two_stand text at a b refl refl (omega arith) (omega arith) (omega arith))
            | no l ↦ elim (dec_lt 255 (10 * (10 * a + b) + c)) [
              | yes m ↦ rw (number_large text at a refl b refl (omega arith) z c refl (omega arith) (omega arith) m) tt
              | no m ↦ rw (number_three text at a refl b refl (omega arith) z c refl (omega arith) (omega arith) (omega arith))
                  (three_stand text at a b c refl refl refl (omega arith) (omega arith) (omega arith) (omega arith) (omega arith))
            ]
          ]
        ]
      ]
    ]

-- the digit that a byte is
byte_digit : (text : List ℕ) (at d : ℕ) → d ≤ 9 → byte_at text at ≡ 48 + d → d ≡ digit_at text at
byte_digit text at d h e = omega (arith, digit_here text at (omega arith) (omega arith))

-- the first byte of a word that stands there
pub first_byte : (text : List ℕ) (at b : ℕ) (rest : List ℕ) → begins text at (b ∷ rest) ≡ true → byte_at text at ≡ b
unfolding begins
first_byte text at b rest e = eqb-true (byte_at text at) b (and_left (eqb (byte_at text at) b) (begins text (at + 1) rest) e)

-- and the rest of it
pub later_bytes : (text : List ℕ) (at b : ℕ) (rest : List ℕ) → begins text at (b ∷ rest) ≡ true → begins text (at + 1) rest ≡ true
unfolding begins
later_bytes text at b rest e = and_right (eqb (byte_at text at) b) (begins text (at + 1) rest) e

-- a number, and no digit after it
record Alone (text : List ℕ) (at v : ℕ) : Type 0 where
  pub most : v ≤ 255
  pub here : begins text at (decimal v) ≡ true
  pub end : 9 < digit_at text (at + length (decimal v))

alone_one : (text : List ℕ) (at v : ℕ) → Alone text at v → v < 10 → number text at ≡ found v (at + 1)
alone_one text at v w h =
    let e = decimal_one v h in
    let d = byte_digit text at v (omega arith) (first_byte text at (48 + v) [] (rw e at w.here)) in
    number_one text at v d (digit_at text (at + 1)) refl (omega arith) (rw e at w.end)

alone_two : (text : List ℕ) (at v : ℕ) → Alone text at v → 10 ≤ v → v < 100 → number text at ≡ found v (at + 2)
alone_two text at v w g h =
    let e = decimal_two v g h in
    let p : begins text at ((48 + v / 10) ∷ (48 + v % 10) ∷ []) ≡ true = rw e at w.here in
    let da = byte_digit text at (v / 10) (omega arith) (first_byte text at (48 + v / 10) ((48 + v % 10) ∷ []) p) in
    let db = byte_digit text (at + 1) (v % 10) (omega arith) (first_byte text (at + 1) (48 + v % 10) [] (later_bytes text at (48 + v / 10) ((48 + v % 10) ∷ []) p)) in
    number_two text at (v / 10) da (v % 10) db (omega arith) (λ z. omega arith) (digit_at text (at + 2)) refl (omega arith) (rw e at w.end)
    ∙ ap (λ (x : ℕ). found x (at + 2)) (omega arith)

alone_three : (text : List ℕ) (at v : ℕ) → Alone text at v → 100 ≤ v → number text at ≡ found v (at + 3)
alone_three text at v w h =
    let e = decimal_three v h (omega (arith, w.most)) in
    let a = 48 + v / 100 in
    let b = 48 + v / 10 % 10 in
    let c = 48 + v % 10 in
    let p : begins text at (a ∷ b ∷ c ∷ []) ≡ true = rw e at w.here in
    let q = later_bytes text at a (b ∷ c ∷ []) p in
    let s : at + 1 + 1 ≡ at + 2 = omega arith in
    let da = byte_digit text at (v / 100) (omega (arith, w.most)) (first_byte text at a (b ∷ c ∷ []) p) in
    let db = byte_digit text (at + 1) (v / 10 % 10) (omega arith) (first_byte text (at + 1) b (c ∷ []) q) in
    let dc = byte_digit text (at + 2) (v % 10) (omega arith) (first_byte text (at + 2) c [] (rw s at (later_bytes text (at + 1) b (c ∷ []) q))) in
    number_three text at (v / 100) da (v / 10 % 10) db (omega (arith, w.most)) (λ z. omega (arith, w.most)) (v % 10) dc (omega arith) (omega arith) (omega (arith, w.most))
    ∙ ap (λ (x : ℕ). found x (at + 3)) (omega (arith, w.most))

-- what v is written as is read as v
pub stands_number : (text : List ℕ) (at v : ℕ) → v ≤ 255 → begins text at (decimal v) ≡ true → 9 < digit_at text (at + length (decimal v))
    → number text at ≡ found v (at + length (decimal v))
stands_number text at v m h e =
    let w : Alone text at v = record { most = m; here = h; end = e } in
    elim (dec_lt v 10) [
      | yes l ↦ alone_one text at v w l ∙ ap (λ (k : ℕ). found v (at + k)) (sym (ap length (decimal_one v l)))
      | no l ↦ elim (dec_lt v 100) [
        | yes k ↦ alone_two text at v w (omega arith) k ∙ ap (λ (j : ℕ). found v (at + j)) (sym (ap length (decimal_two v (omega arith) k)))
        | no k ↦ alone_three text at v w (omega arith) ∙ ap (λ (j : ℕ). found v (at + j)) (sym (ap length (decimal_three v (omega arith) (omega arith))))
      ]
    ]
