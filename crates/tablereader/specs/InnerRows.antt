-- Inner vocabulary of rows of numbers: how far one is read, and what is read of it two numbers at a time.
use Rattle.std.specs.Prelude.{ℕ, ◌+◌, ◌-◌, ◌*◌, ◌≤◌, ◌<◌, Bool, true, false, List, ◌++◌, ◌≡◌, Option, IfSome, length}
use Rattle.std.specs.Borrow.{Bor, MutBor}
use Rattle.kernel.specs.InnerKernel.{bit}
use Rattle.numberreader.specs.Reading.{found, Reader, byte_at, onward}
use Rattle.numberreader.specs.Numbers.{number}
use Rattle.tablereader.specs.Tables.{cell, parted}
use Rattle.tablereader.specs.Laying.{Laid}
use Rattle.numberreader.specs.InnerPromises.{Reached, NumberFound}
use Rattle.tablereader.specs.InnerPromises.{RoomFor}
use Rattle.numberreader.specs.declared.Number.{Number}
use Rattle.tablereader.specs.declared.Spot.{Spot}
use Rattle.tablereader.specs.declared.rows.Pair.{Pair}
use Rattle.tablereader.specs.declared.rows.RowSoFar.{RowSoFar}

-- some items are read, from `at` to `next`, and stored, from `put` to `so_far`; `more` are left, one at least
pub record RowsRead (text : List ℕ) (at : ℕ) (lent : List ℕ) (put : ℕ) (item : Reader (List ℕ)) (left : ℕ) (cells : List ℕ) (more next so_far : ℕ) : Type 0 where
  pub new : List ℕ
  pub value : parted item left text at ≡ onward (λ others end. found (new ++ others) end) (parted item more text next)
  pub some : 0 < more
  pub laid : Laid lent put new cells so_far
  pub reached : Reached text at next
  pub paced : so_far + at ≤ put + next

-- some numbers of a row are read so, and there is room for those that are left
pub record RowBegun (n : ℕ) (text : List ℕ) (at : ℕ) (lent : List ℕ) (put : ℕ) (after : List ℕ) (more next so_far : ℕ) : Type 0 where
  pub rows : RowsRead text at lent put cell n after more next so_far
  pub room : RoomFor more text next after so_far

-- the same of a reader over lent slices: the text, and the storage before and after
abbrev pub RowBegunBy : ℕ → Bor (List ℕ) → Spot → MutBor (List ℕ) → MutBor (List ℕ) → RowSoFar → Type 0
RowBegunBy n text from lent after r = RowBegun n text.now from.at lent.now from.put after.now r.more r.here.at r.here.put

-- a byte is a digit
pub record Digit (b : ℕ) : Type 0 where
  pub low : 48 ≤ b
  pub high : b ≤ 57

-- r is the number of the digits a and b; a is not 0, and a gap is behind them
pub record LongNumber (a b behind r : ℕ) : Type 0 where
  pub first : Digit a
  pub some : a ≡ 48 → ⊥
  pub second : Digit b
  pub gap : behind ≡ 32
  pub value : r ≡ 10 * (a - 48) + (b - 48)

-- such a number was looked for
abbrev pub LongRead : ℕ → ℕ → ℕ → Option ℕ → Type 0
LongRead a b behind r = IfSome r (LongNumber a b behind)

-- a number that was read, and the place after it
abbrev pub number_found : ℕ → ℕ → Number
number_found v next = record { value = v; next = next }

-- a number, with a gap behind it
pub record Item (text : List ℕ) (at v next : ℕ) : Type 0 where
  pub read : NumberFound text at (number text at) (number_found v next)
  pub gap : byte_at text next ≡ 32

-- two numbers, each with a gap behind it
pub record TwoItems (text : List ℕ) (at : ℕ) (p : Pair) : Type 0 where
  pub mid : ℕ
  pub end : ℕ
  pub one : Item text at p.first mid
  pub two : Item text (mid + 1) p.second end
  pub last : p.next ≡ end + 1

-- two numbers were looked for
abbrev pub PairRead : List ℕ → ℕ → Option Pair → Type 0
PairRead text at r = IfSome r (TwoItems text at)

-- a row of k numbers ends within the text, if it stands here and each has two digits
pub record RowWithin (long : Bool) (k : ℕ) (text : List ℕ) (at : ℕ) : Type 0 where
  pub start : at ≤ length text
  pub end : long ≡ true → at + 3 * k ≤ length text

-- two numbers, each of two digits or not, as a flag tells
pub record PairFound (long : Bool) (text : List ℕ) (at : ℕ) (p : Pair) : Type 0 where
  pub read : TwoItems text at p
  pub within : long ≡ true → p.next ≤ at + 6

-- such numbers were looked for
abbrev pub PairBy : Bool → List ℕ → ℕ → Option Pair → Type 0
PairBy long text at r = IfSome r (PairFound long text at)

-- one of two, as a flag tells
unfoldable pub choose : Bool → ℕ → ℕ → ℕ
choose true x y = x
choose false x y = y

-- how many bytes a number of one digit or two has, as a flag tells, with a gap
pub record ItemLength (wide : Bool) (r : ℕ) : Type 0 where
  pub is : r ≡ 2 + bit wide
  pub most : r ≤ 3

-- the number of the digits a and b, or of a alone
abbrev pub value_of : Bool → ℕ → ℕ → ℕ
value_of wide a b = choose wide (10 * (a - 48) + (b - 48)) (a - 48)

-- a number of one digit or two, as a flag tells, with a first digit a and this byte behind it: a gap, and no leading zero
pub record Fits (wide : Bool) (a behind : ℕ) : Type 0 where
  pub digit : Digit a
  pub some : wide ≡ true → a ≡ 48 → ⊥
  pub gap : behind ≡ 32

-- two bytes as one number, the first one lowest
pub record TwoBytes (text : List ℕ) (at r : ℕ) : Type 0 where
  pub value : r ≡ byte_at text at + 256 * byte_at text (at + 1)
  pub first : byte_at text at ≤ 255

-- so many numbers of one digit stand here, each with a gap behind it
abbrev pub ShortItems : ℕ → List ℕ → ℕ → Type 0
ShortItems count text at = (i : ℕ) → i < count → Fits false (byte_at text (at + 2 * i)) (byte_at text (at + 2 * i + 1))
