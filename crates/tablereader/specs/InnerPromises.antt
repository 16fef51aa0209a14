-- What inner readers of tables want and promise: room in the storage, and what they laid in it.
use Rattle.std.specs.Prelude.{ℕ, ◌+◌, ◌≤◌, List, ◌≡◌, Option, MatchOption, length}
use Rattle.std.specs.Borrow.{Bor, MutBor}
use Rattle.numberreader.specs.Reading.{Read, found, fault, Reader}
use Rattle.numberreader.specs.InnerPromises.{Reached}
use Rattle.tablereader.specs.Laying.{Laid}
use Rattle.tablereader.specs.declared.Spot.{Spot}

-- the storage has room from `put` on for the `need` cells that may still come, and for no more than the text has bytes from `at` on
pub record RoomFor (need : ℕ) (text : List ℕ) (at : ℕ) (cells : List ℕ) (put : ℕ) : Type 0 where
  pub within : at ≤ length text
  pub start : put ≤ length cells
  pub fits : (k : ℕ) → k ≤ need → k + at ≤ length text → put + k ≤ length cells

-- the same for a list that only the text's end bounds
abbrev pub RoomForText : List ℕ → ℕ → List ℕ → ℕ → Type 0
RoomForText text at cells put = RoomFor (length text) text at cells put

-- a reader of lists found what `d` says, and laid it in the storage from `put` on
pub record Stored (text : List ℕ) (at : ℕ) (lent : List ℕ) (put : ℕ) (d : Read (List ℕ)) (after : List ℕ) (r : Spot) : Type 0 where
  pub new : List ℕ
  pub value : d ≡ found new r.at
  pub laid : Laid lent put new after r.put
  pub reached : Reached text at r.at
  pub paced : r.put + at ≤ put + r.at

-- a reader found a fault, and laid some list before it
pub record Faulty {A : Type 0} (text : List ℕ) (at : ℕ) (lent : List ℕ) (put : ℕ) (d : Read A) (after : List ℕ) : Type 0 where
  pub value : d ≡ fault
  pub new : List ℕ
  pub end : ℕ
  pub laid : Laid lent put new after end
  pub paced : end + at ≤ put + length text

-- one or the other
abbrev pub StoredIn : List ℕ → ℕ → List ℕ → ℕ → Read (List ℕ) → List ℕ → Option Spot → Type 0
StoredIn text at lent put d after r = MatchOption r (Faulty text at lent put d after) (Stored text at lent put d after)

-- the same of a reader over lent slices: the text, and the storage before and after
abbrev pub StoredBy : Reader (List ℕ) → Bor (List ℕ) → Spot → MutBor (List ℕ) → MutBor (List ℕ) → Option Spot → Type 0
StoredBy read text from lent after r = StoredIn text.now from.at lent.now from.put (read text.now from.at) after.now r
