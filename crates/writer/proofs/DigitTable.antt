-- The table that `write_spaced` writes numbers by has the digits of every number below 64.
use Prim.Native.Nat.{ℕ, ◌+◌, ◌-◌, ◌*◌, ◌/◌, ◌%◌, ◌≤◌, ◌<◌}
use mathlib.Core.List.{List}
use mathlib.Core.Path.{◌≡◌, refl}
use native.Mathlib.Omega.{arith}
use lib.Dec.{eqb, eqb→eq}
use lib.ListN.{get_or}
use Rattle.equivalence.specs.Lists.{up_to, every}
use Rattle.equivalence.proofs.Lists.{of_below}
use Rattle.numberreader.specs.Reading.{ascii}
use Rattle.writer.specs.InnerRoom.{DigitTable}

-- the table, as the code has it
abbrev pub digit_bytes : List ℕ
digit_bytes = ascii "0 1 2 3 4 5 6 7 8 9 101112131415161718192021222324252627282930313233343536373839404142434445464748495051525354555657585960616263"

-- one test each, computed over the whole table
one_rule : (v : ℕ) → v < 10 → get_or digit_bytes (2 * v) 0 ≡ 48 + v
unfolding every up_to ascii
one_rule v l = eqb→eq (get_or digit_bytes (2 * v) 0) (48 + v) (of_below 10 (λ v. eqb (get_or digit_bytes (2 * v) 0) (48 + v)) tt v l)

first_rule : (k : ℕ) → k < 54 → get_or digit_bytes (2 * (10 + k)) 0 ≡ 48 + (10 + k) / 10
unfolding every up_to ascii
first_rule k l =
    eqb→eq (get_or digit_bytes (2 * (10 + k)) 0) (48 + (10 + k) / 10)
    (of_below 54 (λ k. eqb (get_or digit_bytes (2 * (10 + k)) 0) (48 + (10 + k) / 10)) tt k l)

second_rule : (k : ℕ) → k < 54 → get_or digit_bytes (2 * (10 + k) + 1) 0 ≡ 48 + (10 + k) % 10
unfolding every up_to ascii
second_rule k l =
    eqb→eq (get_or digit_bytes (2 * (10 + k) + 1) 0) (48 + (10 + k) % 10)
    (of_below 54 (λ k. eqb (get_or digit_bytes (2 * (10 + k) + 1) 0) (48 + (10 + k) % 10)) tt k l)

module _ (v : ℕ) (g : 10 ≤ v) (h : v < 64) where
  from_ten : 10 + (v - 10) ≡ v
  from_ten = omega arith

  first_digit : get_or digit_bytes (2 * v) 0 ≡ 48 + v / 10
  first_digit = rw from_ten at (first_rule (v - 10) (omega arith))

  second_digit : get_or digit_bytes (2 * v + 1) 0 ≡ 48 + v % 10
  second_digit = rw from_ten at (second_rule (v - 10) (omega arith))

pub digit_table : DigitTable digit_bytes
unfolding ascii
digit_table = record { long = refl; one = one_rule; first = first_digit; second = second_digit }
