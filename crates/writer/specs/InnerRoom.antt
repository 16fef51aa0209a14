-- What writers promise of a line and of bytes that others overwrite next, what they ask of the room that they are lent, of a table of digits, and of numbers.
use Rattle.std.specs.Prelude.{ℕ, ◌+◌, ◌*◌, ◌/◌, ◌%◌, ◌≤◌, ◌<◌, List, [], ◌∷◌, ◌++◌, ◌≡◌, length, get_or}
use Rattle.std.specs.Borrow.{MutBor}
use Rattle.equivalence.specs.Lent.{laid}
use Rattle.tablereader.specs.Laying.{Laid}
use Rattle.writer.specs.Lines.{line}

-- a line of this word, with what follows it, was laid in a lent slice, from its start to this place
abbrev pub LaidLine : List ℕ → List ℕ → MutBor (List ℕ) → MutBor (List ℕ) → ℕ → Type 0
LaidLine word rest lent out end = Laid lent.now 0 (line word rest) out.now end

-- there are k lists of n numbers, and room for a line of them
pub record FactorsRoom (n k : ℕ) (factors out : List ℕ) : Type 0 where
  pub some : 0 < n
  pub line : k * (4 * n + 2) + 10 ≤ length out
  pub list : k * n ≤ length factors

-- as `Laid`, but the byte at the end may have any value: who writes next overwrites it
pub record LaidOpen (lent : List ℕ) (put : ℕ) (new after : List ℕ) (end : ℕ) : Type 0 where
  pub place : end ≡ put + length new
  pub within : end < length lent
  pub long : length after ≡ length lent
  pub over : ℕ
  pub bytes : after ≡ laid lent put (new ++ (over ∷ []))

-- the digits of every number below 64, two bytes each; behind a digit that is the only one stands any byte
pub record DigitTable (digits : List ℕ) : Type 0 where
  pub long : length digits ≡ 128
  pub one : (v : ℕ) → v < 10 → get_or digits (2 * v) 0 ≡ 48 + v
  pub first : (v : ℕ) → 10 ≤ v → v < 64 → get_or digits (2 * v) 0 ≡ 48 + v / 10
  pub second : (v : ℕ) → 10 ≤ v → v < 64 → get_or digits (2 * v + 1) 0 ≡ 48 + v % 10

-- every number is below k
abbrev pub NumbersBelow : ℕ → List ℕ → Type 0
NumbersBelow k m = (i : ℕ) → i < length m → get_or m i 0 < k
