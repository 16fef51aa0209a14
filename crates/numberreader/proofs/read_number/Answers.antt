-- `numberreader::read_number` meets its contract, by the laws of Digits.
use Prim.Native.Nat.{◌+◌, ◌-◌, ◌*◌, ◌≤◌, ◌<◌}
use native.Mathlib.Omega.{arith}
use Rattle.numberreader.proofs.Digits.{digit_low, digit_high, no_digit, one_digit, digit_zero, two_digits, too_large, three_digits}
use Rattle.numberreader.proofs.read_number.Goals as goal

pub returns-then-not-is_digit : goal.returns-then-not-is_digit
returns-then-not-is_digit c = search no_digit

pub overflow_sub-result : goal.overflow_sub-result
overflow_sub-result c = search digit_low

pub returns-then-not-is_digit-2 : goal.returns-then-not-is_digit-2
returns-then-not-is_digit-2 c = search one_digit

pub returns-then-a-eq48 : goal.returns-then-a-eq48
returns-then-a-eq48 c = search digit_zero

pub overflow_sub-two : goal.overflow_sub-two
overflow_sub-two c = search digit_low

pub overflow_mul-two : goal.overflow_mul-two
overflow_mul-two c = let h : c.byte_at-a.result ≤ 57 = search digit_high in omega arith

pub overflow_sub-two-2 : goal.overflow_sub-two-2
overflow_sub-two-2 c = search digit_low

pub overflow_add-two : goal.overflow_add-two
overflow_add-two c = let h : c.byte_at-a.result ≤ 57 = search digit_high in
    let k : c.byte_at-b.result ≤ 57 = search digit_high in
    omega arith

pub returns-then-not-is_digit-3 : goal.returns-then-not-is_digit-3
returns-then-not-is_digit-3 c = search two_digits

pub overflow_sub-c : goal.overflow_sub-c
overflow_sub-c c = search digit_low

pub returns-then-three-gt-MAX_NUMBER : goal.returns-then-three-gt-MAX_NUMBER
returns-then-three-gt-MAX_NUMBER c =
    let h : 255 < 10 * (10 * (c.byte_at-a.result - 48) + (c.byte_at-b.result - 48)) + (c.byte_at-c.result - 48) = omega arith in
    search too_large

pub returns : goal.returns
returns c =
    let h : 10 * (10 * (c.byte_at-a.result - 48) + (c.byte_at-b.result - 48)) + (c.byte_at-c.result - 48) ≤ 255 = omega arith in
    rw (c.from.ensures, c.from-2.ensures) (search three_digits)
