-- The digits of a number: one, two or three of them, and that any number of them has the number's value.
use Prim.Native.Nat.{ℕ, zero, suc, ◌+◌, ◌-◌, ◌*◌, ◌/◌, ◌%◌, ◌≤◌, ◌<◌}
use mathlib.Core.List.{List, [], ◌∷◌, ◌++◌}
use mathlib.Core.Path.{◌≡◌, refl, ap, ◌∙◌}
use native.Mathlib.Decide.{dec_lt}
use native.Mathlib.Omega.{arith}
use borrow.Author.Tests.{lt-ltb, le-ltb}
use lib.ListN.{length, length-append}
use Rattle.writer.specs.Numerals.{digits, decimal}

-- the last digit left
digits_last : (k v : ℕ) → v < 10 → digits (suc k) v ≡ (48 + v) ∷ []
unfolding digits
digits_last k v h = simp (digits, lt-ltb v 10 h)

-- a digit behind others
digits_more : (k v : ℕ) → 10 ≤ v → digits (suc k) v ≡ digits k (v / 10) ++ ((48 + v % 10) ∷ [])
unfolding digits
digits_more k v h = simp (digits, le-ltb v 10 h)

digits_two : (k v : ℕ) → 10 ≤ v → v < 100 → digits (suc (suc k)) v ≡ (48 + v / 10) ∷ (48 + v % 10) ∷ []
digits_two k v g h = digits_more (suc k) v g ∙ ap (λ (l : List ℕ). l ++ ((48 + v % 10) ∷ [])) (digits_last k (v / 10) (omega arith))

pub decimal_one : (v : ℕ) → v < 10 → decimal v ≡ (48 + v) ∷ []
unfolding decimal
decimal_one v h = digits_last v v h

pub decimal_two : (v : ℕ) → 10 ≤ v → v < 100 → decimal v ≡ (48 + v / 10) ∷ (48 + v % 10) ∷ []
unfolding decimal
decimal_two v g h = let e : v ≡ suc (v - 1) = omega arith in ap (λ (k : ℕ). digits (suc k) v) e ∙ digits_two (v - 1) v g h

pub decimal_three : (v : ℕ) → 100 ≤ v → v < 1000 → decimal v ≡ (48 + v / 100) ∷ (48 + v / 10 % 10) ∷ (48 + v % 10) ∷ []
unfolding decimal
decimal_three v g h =
    let e : v ≡ suc (suc (v - 2)) = omega arith in
    let d : v / 10 / 10 ≡ v / 100 = omega arith in
    digits_more v v (omega arith)
    ∙ ap (λ (k : ℕ). digits k (v / 10) ++ ((48 + v % 10) ∷ [])) e
    ∙ ap (λ (l : List ℕ). l ++ ((48 + v % 10) ∷ [])) (digits_two (v - 2) (v / 10) (omega arith) (omega arith))
    ∙ ap (λ (x : ℕ). (48 + x) ∷ (48 + v / 10 % 10) ∷ (48 + v % 10) ∷ []) d

-- a number has a digit at least
pub decimal_some : (v : ℕ) → 0 < length (decimal v)
unfolding decimal
decimal_some v =
    elim (dec_lt v 10) [
      | yes h ↦ rw (digits_last v v h) (omega arith)
      | no h ↦ rw (digits_more v v (omega arith), length-append (digits v (v / 10)) ((48 + v % 10) ∷ [])) (omega arith)
    ]

-- the value of bytes that are digits, behind digits of this value
unfoldable pub value_from : ℕ → List ℕ → ℕ
value_from v [] = v
value_from v (b ∷ rest) = value_from (10 * v + (b - 48)) rest

value_append : (v : ℕ) (xs ys : List ℕ) → value_from v (xs ++ ys) ≡ value_from (value_from v xs) ys
unfolding value_from
value_append v [] ys = refl
value_append v (b ∷ xs) ys = value_append (10 * v + (b - 48)) xs ys

digits_value : (k v : ℕ) → v < k → value_from 0 (digits k v) ≡ v
unfolding value_from
digits_value zero v h = absurd (omega arith)
digits_value (suc k) v h =
    elim (dec_lt v 10) [
      | yes l ↦ rw (digits_last k v l) (omega arith)
      | no l ↦ rw (digits_more k v (omega arith), value_append 0 (digits k (v / 10)) ((48 + v % 10) ∷ []), digits_value k (v / 10) (omega arith)) (omega arith)
    ]

-- what a number is written as has its value, whatever its size
pub decimal_value : (v : ℕ) → value_from 0 (decimal v) ≡ v
unfolding decimal
decimal_value v = digits_value (suc v) v (omega arith)
