-- How long what is written is: a number has one digit at least, and a byte three at most.
use Prim.Native.Nat.{ℕ, suc, ◌+◌, ◌*◌, ◌≤◌, ◌<◌}
use mathlib.Core.List.{List, [], ◌∷◌, ◌++◌}
use mathlib.Core.Path.{◌≡◌, ap, sym, ◌∙◌}
use native.Mathlib.Decide.{dec_lt}
use native.Mathlib.Omega.{arith}
use lib.ListN.{length, get_or, take, drop, length-append, take-append-drop}
use lib.Seq.{drop-cons}
use Rattle.numberreader.specs.Reading.{ascii}
use Rattle.tablereader.specs.Laying.{Laid}
use Rattle.writer.specs.Numerals.{decimal}
use Rattle.writer.specs.Lines.{gap_bytes, spaced, bracketed}
use Rattle.writer.proofs.Digits.{decimal_one, decimal_two, decimal_three, decimal_some}
use Rattle.writer.proofs.Opening.{open_in_room}
use Rattle.writer.proofs.Spacing.{Spaced, spaced_append, spaced_more}

-- one digit below 10, two from there on
pub one_digit_long : (v : ℕ) → v < 10 → length (decimal v) ≡ 1
one_digit_long v h = ap length (decimal_one v h)

pub two_digits_long : (v : ℕ) → 10 ≤ v → v < 100 → length (decimal v) ≡ 2
two_digits_long v g h = ap length (decimal_two v g h)

-- three digits at most for a byte
pub decimal_short : (v : ℕ) → v ≤ 255 → length (decimal v) ≤ 3
decimal_short v h =
    elim (dec_lt v 10) [
      | yes l ↦ omega (arith, one_digit_long v l)
      | no l ↦ elim (dec_lt v 100) [
        | yes k ↦ omega (arith, two_digits_long v (omega arith) k)
        | no k ↦ omega (arith, ap length (decimal_three v (omega arith) (omega arith)))
      ]
    ]

pub spaced_length : (x : ℕ) (rest : List ℕ) → length (spaced (x ∷ rest)) ≡ 1 + length (decimal x) + length (spaced rest)
unfolding spaced gap_bytes ascii
spaced_length x rest = omega (arith, length-append (decimal x) (spaced rest))

-- numbers that are bytes
abbrev pub Bytes : List ℕ → Type 0
Bytes m = (i : ℕ) → get_or m i 0 ≤ 255

pub spaced_short : (m : List ℕ) → Bytes m → length (spaced m) ≤ 4 * length m
unfolding spaced
spaced_short [] b = omega arith
spaced_short (x ∷ rest) b =
    omega (arith, spaced_length x rest, decimal_short x (b 0), spaced_short rest (λ i. b (suc i)))

-- a bracket has one byte more than its numbers, each after a space
bracketed_length : (m : List ℕ) → 0 < length m → length (bracketed m) ≡ length (spaced m) + 1
unfolding bracketed spaced gap_bytes ascii
bracketed_length [] h = absurd (omega arith)
bracketed_length (x ∷ rest) h = omega (arith, length-append (decimal x ++ spaced rest) (93 ∷ []))

pub bracket_fits : (m out : List ℕ) (put : ℕ) → 0 < length m → put + length (bracketed m) + 1 ≤ length out → put + length (spaced m) + 2 ≤ length out
bracket_fits m out put some room = omega (arith, bracketed_length m some)

pub bracketed_short : (m : List ℕ) → 0 < length m → Bytes m → length (bracketed m) ≤ 4 * length m + 1
bracketed_short m h b = omega (arith, bracketed_length m h, spaced_short m b)

-- a number after a space has two bytes at least
number_fits : (v put : ℕ) (out : List ℕ) → put + length (spaced (v ∷ [])) + 2 ≤ length out → put + 4 ≤ length out
number_fits v put out room = omega (arith, spaced_length v [], decimal_some v)

-- behind the first i numbers there is room for another, where there is room for all of them
spaced_room : (m : List ℕ) (i : ℕ) → i < length m → length (spaced (take i m)) + length (spaced (get_or m i 0 ∷ [])) ≤ length (spaced m)
unfolding spaced
spaced_room m i h =
    let e : spaced m ≡ spaced (take i m) ++ spaced (get_or m i 0 ∷ drop (suc i) m) =
    ap spaced (sym (take-append-drop i m)) ∙ spaced_append (take i m) (drop i m) ∙ ap (λ (l : List ℕ). spaced (take i m) ++ spaced l) (drop-cons m i 0 h) in
    let x = get_or m i 0 in
    omega (arith, ap length e, length-append (spaced (take i m)) (spaced (x ∷ drop (suc i) m)), spaced_length x (drop (suc i) m), spaced_length x [])

module _ (lent : List ℕ) (put : ℕ) (m : List ℕ) (room : put + length (spaced m) + 2 ≤ length lent) (out : List ℕ) (at i : ℕ) (p : Spaced lent put m out at i)
    (h : i < length m) where
  next_fits : at + length (spaced (get_or m i 0 ∷ [])) + 2 ≤ length out
  next_fits = omega (arith, room, p.laid.place, p.laid.long, spaced_room m i h)

  pub next_room : at + 4 ≤ length out
  next_room = number_fits (get_or m i 0) at out next_fits

  -- the next number, laid exactly
  pub spaced_next : (out' : List ℕ) (at' : ℕ) → Laid out at (spaced (get_or m i 0 ∷ [])) out' at' → at' ≤ at + 4 → Spaced lent put m out' at' (i + 1)
  spaced_next out' at' q l =
      spaced_more lent put m room out at i out' at' p h (open_in_room out at (spaced (get_or m i 0 ∷ [])) out' at' next_fits q) l
