-- What is written: numbers after gaps, in brackets, and one after the other.
use Prim.Native.Nat.{ℕ, ◌+◌, ◌-◌, ◌*◌, ◌/◌, ◌%◌, ◌≤◌, ◌<◌}
use mathlib.Core.List.{List, [], ◌∷◌, ◌++◌, map, append_assoc, append-nil, map-append}
use mathlib.Core.Path.{◌≡◌, refl, ap, sym, ◌∙◌}
use native.Mathlib.Nat.{suc-mul, mul-le-mul_right}
use native.Mathlib.Numerals.{add-one}
use native.Mathlib.Omega.{arith}
use lib.ListN.{length, get_or, take, drop, length-take}
use lib.Seq.{take-suc, take_all}
use Rattle.equivalence.specs.Lists.{up_to}
use Rattle.equivalence.specs.Lent.{stretch}
use Rattle.equivalence.specs.Outcome.{refusal}
use Rattle.equivalence.specs.Refusal.{number_of}
use Rattle.equivalence.specs.declared.Refusal.{Refusal}
use Rattle.equivalence.specs.declared.Refusal.TheVariants.{Size, Operations, Arity, Cells, Length, Cell, Range, NotMap, Space, Equal, NotCongruence, Tally, Text, UnknownName, PointsFull}
use Rattle.numberreader.specs.Reading.{ascii}
use Rattle.writer.specs.Numerals.{decimal}
use Rattle.writer.specs.Lines.{gap_bytes, spaced, bracketed, spaced_brackets, line, refused_numbers, outcome_line, refused_line}
use Rattle.tablereader.specs.Laying.{Laid}
use Rattle.tablereader.proofs.Laying.{laid_none, laid_more}
use Rattle.writer.specs.InnerRoom.{LaidOpen, DigitTable}
use Rattle.writer.proofs.Opening.{laid_cut, open_of, open_closed, open_more, first_replaced}
use Rattle.writer.proofs.Digits.{decimal_one, decimal_two, decimal_three}

pub spaced_one : (v : ℕ) → spaced (v ∷ []) ≡ gap_bytes ++ decimal v
unfolding spaced
spaced_one v = rw append-nil

pub spaced_append : (xs ys : List ℕ) → spaced (xs ++ ys) ≡ spaced xs ++ spaced ys
unfolding spaced gap_bytes ascii
spaced_append [] ys = refl
spaced_append (x ∷ xs) ys = rw (spaced_append xs ys) (ap (λ (l : List ℕ). 32 ∷ l) (sym (append_assoc (decimal x) (spaced xs) (spaced ys))))

-- a number after open bytes: its space closes them
number_more : (lent : List ℕ) (put : ℕ) (a mid : List ℕ) (at v : ℕ) (after : List ℕ) (end : ℕ) → LaidOpen lent put a mid at
    → LaidOpen mid at (spaced (v ∷ [])) after end → LaidOpen lent put (a ++ spaced (v ∷ [])) after end
unfolding spaced gap_bytes ascii
number_more lent put a mid at v after end p q = open_more lent put a mid at 32 (decimal v ++ []) after end p q

-- the first i numbers are written, each after a space, with an open byte behind them
pub record Spaced (lent : List ℕ) (put : ℕ) (m out : List ℕ) (at i : ℕ) : Type 0 where
  pub passed : i ≤ length m
  pub short : at ≤ put + 4 * i
  pub laid : LaidOpen lent put (spaced (take i m)) out at

module _ (lent : List ℕ) (put : ℕ) (m : List ℕ) (room : put + length (spaced m) + 2 ≤ length lent) where
  pub spaced_start : Spaced lent put m lent put 0
  unfolding spaced
  spaced_start = record { passed = omega arith; short = omega arith; laid = open_of lent put [] lent put (laid_none lent put (omega arith)) (omega arith) }

  pub spaced_more : (out : List ℕ) (at i : ℕ) (out' : List ℕ) (at' : ℕ) → Spaced lent put m out at i → i < length m
      → LaidOpen out at (spaced (get_or m i 0 ∷ [])) out' at' → at' ≤ at + 4 → Spaced lent put m out' at' (i + 1)
  spaced_more out at i out' at' p h q l =
      record {
        passed = omega arith;
        short = omega (arith, p.short);
        laid = rw (add-one i, take-suc m i 0 h, spaced_append (take i m) (get_or m i 0 ∷ [])) (number_more lent put (spaced (take i m)) out at (get_or m i 0) out' at' p.laid q);
      }

  pub spaced_all : (out : List ℕ) (at i : ℕ) → Spaced lent put m out at i → length m ≤ i → LaidOpen lent put (spaced m) out at
  spaced_all out at i p h = rw take_all at p.laid

-- a bracket, part by part
pub bracketed_parts : (m : List ℕ) → 0 < length m → bracketed m ≡ (91 ∷ []) ++ (decimal (get_or m 0 0) ++ (spaced (drop 1 m) ++ (93 ∷ [])))
unfolding bracketed ascii
bracketed_parts [] h = absurd (omega arith)
bracketed_parts (x ∷ rest) h = ap (λ (l : List ℕ). 91 ∷ l) (append_assoc (decimal x) (spaced rest) (93 ∷ []))

-- a refusal's line has its reason alone
refused_line_lem : (r : Refusal) (done : List ℕ) → outcome_line (refusal r) done ≡ line (ascii "[refused") (spaced (number_of r ∷ []))
unfolding outcome_line refused_numbers refusal number_of
refused_line_lem Size done = refl
refused_line_lem Operations done = refl
refused_line_lem Arity done = refl
refused_line_lem Cells done = refl
refused_line_lem Length done = refl
refused_line_lem Cell done = refl
refused_line_lem Range done = refl
refused_line_lem NotMap done = refl
refused_line_lem Space done = refl
refused_line_lem Equal done = refl
refused_line_lem NotCongruence done = refl
refused_line_lem Tally done = refl
refused_line_lem Text done = refl
refused_line_lem UnknownName done = refl
refused_line_lem PointsFull done = refl

-- and is the same whatever success would give
pub outcome_refused : (r : Refusal) (done : List ℕ) → outcome_line (refusal r) done ≡ refused_line r
unfolding refused_line
outcome_refused r done = refused_line_lem r done ∙ sym (refused_line_lem r [])

-- numbers and brackets written piece by piece
module _ (lent : List ℕ) (put : ℕ) (mid : List ℕ) (at : ℕ) (after : List ℕ) (end : ℕ) where
  pub number_of_one : (v : ℕ) → v < 10 → Laid lent put ((48 + v) ∷ []) after end → Laid lent put (decimal v) after end
  number_of_one v h p = rw (decimal_one v h) p

  pub number_of_two : (v : ℕ) → 10 ≤ v → v < 100 → Laid lent put ((48 + v / 10) ∷ []) mid at → Laid mid at ((48 + v % 10) ∷ []) after end
      → Laid lent put (decimal v) after end
  number_of_two v g h p q =
      rw (decimal_two v g h) (laid_more lent put ((48 + v / 10) ∷ []) mid at ((48 + v % 10) ∷ []) after end p q)

  pub number_of_three : (v : ℕ) (mid' : List ℕ) (at' : ℕ) → 100 ≤ v → v < 1000 → Laid lent put ((48 + v / 100) ∷ []) mid at
      → Laid mid at ((48 + v / 10 % 10) ∷ []) mid' at' → Laid mid' at' ((48 + v % 10) ∷ []) after end → Laid lent put (decimal v) after end
  number_of_three v mid' at' h l p q r =
      rw (decimal_three v h l)
      (laid_more lent put ((48 + v / 100) ∷ (48 + v / 10 % 10) ∷ []) mid' at' ((48 + v % 10) ∷ []) after end
      (laid_more lent put ((48 + v / 100) ∷ []) mid at ((48 + v / 10 % 10) ∷ []) mid' at' p q) r)

  pub number_after_space : (v : ℕ) → Laid lent put gap_bytes mid at → Laid mid at (decimal v) after end → Laid lent put (spaced (v ∷ [])) after end
  number_after_space v p q = rw (spaced_one v) (laid_more lent put gap_bytes mid at (decimal v) after end p q)

  pub digit_after_space : (v : ℕ) → v < 10 → Laid lent put gap_bytes mid at → Laid mid at ((48 + v) ∷ []) after end → Laid lent put (spaced (v ∷ [])) after end
  digit_after_space v h p q = number_after_space v p (rw (decimal_one v h) q)

  -- a space and two bytes of the table: where there is one digit, the last byte stands open behind it
  module _ (v : ℕ) (digits : List ℕ) (table : DigitTable digits) (mid' : List ℕ) (at' : ℕ) (p : Laid lent put gap_bytes mid at)
      (q : Laid mid at (get_or digits (2 * v) 0 ∷ []) mid' at') (r : Laid mid' at' (get_or digits (2 * v + 1) 0 ∷ []) after end) where
    laid_three : Laid lent put ((gap_bytes ++ (get_or digits (2 * v) 0 ∷ [])) ++ (get_or digits (2 * v + 1) 0 ∷ [])) after end
    laid_three =
        laid_more lent put (gap_bytes ++ (get_or digits (2 * v) 0 ∷ [])) mid' at' (get_or digits (2 * v + 1) 0 ∷ []) after end
        (laid_more lent put gap_bytes mid at (get_or digits (2 * v) 0 ∷ []) mid' at' p q) r

    laid_end : end ≡ put + 3
    unfolding gap_bytes ascii
    laid_end = omega (arith, p.place, q.place, r.place)

    pub small_of_one : v < 10 → LaidOpen lent put (spaced (v ∷ [])) after (put + 2)
    small_of_one h =
        let e : end ≡ put + 2 + 1 = omega (arith, laid_end) in
        laid_cut lent put (spaced (v ∷ [])) (get_or digits (2 * v + 1) 0) after (put + 2)
        (rw (spaced_one v, decimal_one v h, ← table.one v h, ← e) laid_three)

    pub small_of_two : 10 ≤ v → v < 64 → put + 4 ≤ length lent → LaidOpen lent put (spaced (v ∷ [])) after (put + 3)
    small_of_two g h room =
        open_of lent put (spaced (v ∷ [])) after (put + 3)
        (rw (spaced_one v, decimal_two v g (omega arith), ← table.first v g h, ← table.second v g h, ← laid_end)
        (rw (append_assoc gap_bytes (get_or digits (2 * v) 0 ∷ []) (get_or digits (2 * v + 1) 0 ∷ [])) at laid_three))
        (omega arith)

  pub numbers_in_bracket : (m mid' : List ℕ) (at' : ℕ) → 0 < length m → LaidOpen lent put (spaced m) mid at → Laid mid at (93 ∷ []) mid' end
      → Laid mid' put (91 ∷ []) after at' → Laid lent put (bracketed m) after end
  unfolding bracketed spaced gap_bytes ascii
  numbers_in_bracket [] mid' at' h p q r = absurd (omega arith)
  numbers_in_bracket (x ∷ rest) mid' at' h p q r =
      first_replaced lent put 32 91 ((decimal x ++ spaced rest) ++ (93 ∷ [])) mid' end after at'
      (open_closed lent put (32 ∷ (decimal x ++ spaced rest)) mid at 93 [] mid' end p q) r

  pub bracket_after_space : (m : List ℕ) → Laid lent put gap_bytes mid at → Laid mid at (bracketed m) after end
      → Laid lent put (spaced_brackets (m ∷ [])) after end
  unfolding spaced_brackets
  bracket_after_space m p q = rw append-nil (laid_more lent put gap_bytes mid at (bracketed m) after end p q)

  pub three_numbers : (a b c : ℕ) (mid' : List ℕ) (at' : ℕ) → Laid lent put (spaced (a ∷ [])) mid at → Laid mid at (spaced (b ∷ [])) mid' at'
      → Laid mid' at' (spaced (c ∷ [])) after end → Laid lent put (spaced (a ∷ b ∷ c ∷ [])) after end
  three_numbers a b c mid' at' p q r =
      rw (spaced_append (a ∷ []) (b ∷ c ∷ []), spaced_append (b ∷ []) (c ∷ []))
      (laid_more lent put (spaced (a ∷ [])) mid at (spaced (b ∷ []) ++ spaced (c ∷ [])) after end p
      (laid_more mid at (spaced (b ∷ [])) mid' at' (spaced (c ∷ [])) after end q r))

  -- a line: its word, what follows, and its end
  pub line_written : (word body mid' : List ℕ) (at' : ℕ) → Laid lent put word mid at → Laid mid at body mid' at' → Laid mid' at' (ascii "]\n") after end
      → Laid lent put (line word body) after end
  unfolding line
  line_written word body mid' at' p q r =
      laid_more lent put (word ++ body) mid' at' (ascii "]\n") after end (laid_more lent put word mid at body mid' at' p q) r

  pub numbers_line_written : (word m mid' : List ℕ) (at' : ℕ) → Laid lent put word mid at → LaidOpen mid at (spaced m) mid' at'
      → Laid mid' at' (ascii "]\n") after end → Laid lent put (line word (spaced m)) after end
  unfolding line ascii
  numbers_line_written word m mid' at' p q r =
      rw (append_assoc word (spaced m) (93 ∷ 10 ∷ []))
      (laid_more lent put word mid at (spaced m ++ (93 ∷ 10 ∷ [])) after end p (open_closed mid at (spaced m) mid' at' 93 (10 ∷ []) after end q r))

  pub refused_written : (r : Refusal) (v : ℕ) (mid' : List ℕ) (at' : ℕ) → v ≡ number_of r → Laid lent put (ascii "[refused") mid at
      → Laid mid at (spaced (v ∷ [])) mid' at' → Laid mid' at' (ascii "]\n") after end → Laid lent put (refused_line r) after end
  unfolding refused_line
  refused_written r v mid' at' e p q s = rw refused_line_lem (line_written (ascii "[refused") (spaced (number_of r ∷ [])) mid' at' p (rw e at q) s)

  pub two_parts_written : (word a b mid' : List ℕ) (at' : ℕ) (mid'' : List ℕ) (at'' : ℕ) → Laid lent put word mid at → Laid mid at a mid' at'
      → Laid mid' at' b mid'' at'' → Laid mid'' at'' (ascii "]\n") after end → Laid lent put (line word (a ++ b)) after end
  two_parts_written word a b mid' at' mid'' at'' p q r s =
      line_written word (a ++ b) mid'' at'' p (laid_more mid at a mid' at' b mid'' at'' q r) s

pub brackets_append : (ms ns : List (List ℕ)) → spaced_brackets (ms ++ ns) ≡ spaced_brackets ms ++ spaced_brackets ns
unfolding spaced_brackets gap_bytes ascii
brackets_append [] ns = refl
brackets_append (m ∷ ms) ns =
    rw (brackets_append ms ns) (ap (λ (l : List ℕ). 32 ∷ l) (sym (append_assoc (bracketed m) (spaced_brackets ms) (spaced_brackets ns))))

-- the maps from 0 to i - 1 of those that follow each other, each in a bracket after a space
unfoldable pub brackets_up_to : ℕ → List ℕ → ℕ → List ℕ
brackets_up_to n maps i = spaced_brackets (map (stretch n maps) (up_to i))

pub brackets_next : (n : ℕ) (maps : List ℕ) (i : ℕ) → brackets_up_to n maps (i + 1) ≡ brackets_up_to n maps i ++ spaced_brackets (take n (drop (i * n) maps) ∷ [])
unfolding brackets_up_to up_to stretch
brackets_next n maps i =
    rw (add-one i, map-append (stretch n maps) (up_to i) (i ∷ []))
    (brackets_append (map (stretch n maps) (up_to i)) (take n (drop (i * n) maps) ∷ []))

-- one more of equal parts
pub part_more : (i count w : ℕ) → i < count → i * w + w ≤ count * w
part_more i count w h = rw (← suc-mul i w) (mul-le-mul_right w h)

-- the first i maps are written
pub record MapsWritten (lent : List ℕ) (put n : ℕ) (maps out : List ℕ) (at i : ℕ) : Type 0 where
  pub short : at ≤ put + i * (4 * n + 2)
  pub laid : Laid lent put (brackets_up_to n maps i) out at

-- there is a map more to read, and room to write it
pub record OneMore (n : ℕ) (maps out : List ℕ) (at from : ℕ) : Type 0 where
  pub source : from + n ≤ length maps
  pub room : at + 4 * n + 3 ≤ length out

module _ (lent : List ℕ) (put n : ℕ) (maps : List ℕ) where
  pub maps_written_none : put ≤ length lent → MapsWritten lent put n maps lent put 0
  unfolding brackets_up_to up_to spaced_brackets
  maps_written_none h = record { short = omega arith; laid = laid_none lent put h }

  module _ (out : List ℕ) (at i : ℕ) (p : MapsWritten lent put n maps out at i) where
    pub maps_written_room : (count : ℕ) → i < count → put + count * (4 * n + 2) + 1 ≤ length lent → count * n ≤ length maps → OneMore n maps out at (i * n)
    maps_written_room count h r s =
        omega (arith, p.short, p.laid.long, part_more i count n h, part_more i count (4 * n + 2) h)

    pub maps_written_more : (out' : List ℕ) (at' : ℕ) → Laid out at (spaced_brackets (take (i * n + n - i * n) (drop (i * n) maps) ∷ [])) out' at'
        → at' ≤ at + 4 * length (take (i * n + n - i * n) (drop (i * n) maps)) + 2 → MapsWritten lent put n maps out' at' (i + 1)
    maps_written_more out' at' q s =
        let e : i * n + n - i * n ≡ n = omega arith in
        record {
          short = rw (add-one i, suc-mul i (4 * n + 2)) (omega (arith, p.short, simp (e, length-take) at s));
          laid =
              rw (brackets_next n maps i)
              (laid_more lent put (brackets_up_to n maps i) out at (spaced_brackets (take n (drop (i * n) maps) ∷ [])) out' at' p.laid (rw e at q));
        }

    pub maps_written_all : (count : ℕ) → i ≤ count → count ≤ i → Laid lent put (spaced_brackets (map (stretch n maps) (up_to count))) out at
    unfolding brackets_up_to
    maps_written_all count l g = let e : i ≡ count = omega arith in rw e at p.laid

    pub maps_written_short : (count : ℕ) → i ≤ count → count ≤ i → at ≤ put + count * (4 * n + 2)
    maps_written_short count l g = let e : i ≡ count = omega arith in rw e at p.short
