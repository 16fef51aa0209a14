-- Numbers: 0 to 255 in base ten without leading zeros.
use Rattle.std.specs.Prelude.{ℕ, ◌+◌, ◌-◌, ◌*◌, true, false, ◌&&◌, List, eqb, leb, ltb}
use Rattle.numberreader.specs.Reading.{Reader, found, fault, byte_at}

-- the value of the digit at a place; 10 where another byte stands
unfoldable pub digit_at : List ℕ → ℕ → ℕ
digit_at text at = elim (leb 48 (byte_at text at) && leb (byte_at text at) 57) [ true ↦ byte_at text at - 48 | false ↦ 10 ]

-- the value of the three digits from a place on
abbrev pub three_at : List ℕ → ℕ → ℕ
three_at text at = 100 * digit_at text at + 10 * digit_at text (at + 1) + digit_at text (at + 2)

-- a number: 0, or one, two or three digits of which the first is not 0; at most 255
unfoldable pub number : Reader ℕ
number = λ text at. elim (ltb 9 (digit_at text at)) [
  | true ↦ fault
  | false ↦ elim (eqb (digit_at text at) 0) [
    | true ↦ found 0 (at + 1)
    | false ↦ elim (ltb 9 (digit_at text (at + 1))) [
      | true ↦ found (digit_at text at) (at + 1)
      | false ↦ elim (ltb 9 (digit_at text (at + 2))) [
        | true ↦ found (10 * digit_at text at + digit_at text (at + 1)) (at + 2)
        | false ↦ elim (ltb 255 (three_at text at)) [ true ↦ fault | false ↦ found (three_at text at) (at + 3) ]
      ]
    ]
  ]
]
