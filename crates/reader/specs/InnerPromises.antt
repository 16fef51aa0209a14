-- What inner readers of lines promise: what they came to, where they stand, and what they laid in the lent bytes.
use Rattle.std.specs.Prelude.{ℕ, ◌+◌, ◌-◌, ◌^◌, ◌≤◌, ◌<◌, List, [], ◌∷◌, ◌++◌, ◌≡◌, Option, MatchOption, Result, MatchResult, length, take}
use Rattle.std.specs.Borrow.{Bor, MutBor}
use Rattle.numberreader.specs.Reading.{Read, found, fault, Reader}
use Rattle.numberreader.specs.InnerPromises.{Reached}
use Rattle.tablereader.specs.InnerPromises.{RoomFor, Faulty}
use Rattle.tablereader.specs.Laying.{Laid}
use Rattle.tablereader.specs.declared.Spot.{Spot}
use Rattle.equivalence.specs.declared.Refusal.{Refusal}
use Rattle.algebra.specs.Algebra.{algebra_of}
use Rattle.reader.specs.Lines.{Progress, defined, refused, close, last_table, after_table, operation, Request, request_of}
use Rattle.reader.specs.declared.lines.OperationLine.{OperationLine}
use Rattle.reader.specs.declared.requests.RequestLine.{RequestLine}

-- the storage has room for the cells of an algebra that may still come, of which 32,768 at most are stored
abbrev pub RoomForCells : List ℕ → ℕ → List ℕ → ℕ → Type 0
RoomForCells text at cells put = RoomFor (32768 - put) text at cells put

-- a line ends here
pub record CloseFound (text : List ℕ) (at end : ℕ) : Type 0 where
  pub value : close text at ≡ found tt end
  pub within : end ≤ length text
  pub past : at < end

-- the end of a line was looked for
abbrev pub CloseRead : List ℕ → ℕ → Option ℕ → Type 0
CloseRead text at r = MatchOption r (close text at ≡ fault) (CloseFound text at)

-- what an operation line that was read came to, behind operations of these arities
abbrev pub progress_of : ℕ → List ℕ → List ℕ → OperationLine → Progress
progress_of n arities room l = defined (algebra_of n (arities ++ (l.arity ∷ [])) (take l.cells room)) l.next

-- the table of an operation line, behind these arities and so many cells of the storage
unfoldable pub table_progress : List ℕ → ℕ → ℕ → ℕ → List ℕ → ℕ → List ℕ → Progress
table_progress text at s n lent put arities = after_table (algebra_of n arities (take put lent)) s (last_table n s text at)

-- the table was read as that says, and its n^s cells at most stand in the storage behind the cells before, which stay as they are
pub record TableRead (text : List ℕ) (at s n : ℕ) (lent : List ℕ) (put : ℕ) (after : List ℕ) (r : OperationLine) : Type 0 where
  pub value : (arities : List ℕ) → table_progress text at s n lent put arities ≡ progress_of n arities after r
  pub reached : Reached text at r.next
  pub paced : r.cells + at ≤ put + r.next
  pub behind : put ≤ r.cells
  pub counted : r.cells ≤ put + n ^ s
  pub stored : r.cells ≤ length lent
  pub before : take put after ≡ take put lent

-- the table was refused as that says, and the cells before stay as they are
pub record TableRefused (text : List ℕ) (at s n : ℕ) (lent : List ℕ) (put : ℕ) (after : List ℕ) (r : Refusal) : Type 0 where
  pub value : (arities : List ℕ) → table_progress text at s n lent put arities ≡ refused r
  pub before : take put after ≡ take put lent

-- one or the other
abbrev pub TableIn : List ℕ → ℕ → ℕ → ℕ → List ℕ → ℕ → List ℕ → Result OperationLine Refusal → Type 0
TableIn text at s n lent put after r = MatchResult r (TableRead text at s n lent put after) (TableRefused text at s n lent put after)

-- an operation line, behind these arities and so many cells of the storage
unfoldable pub operation_progress : List ℕ → ℕ → ℕ → List ℕ → ℕ → List ℕ → Progress
operation_progress text at n lent put arities = operation (algebra_of n arities (take put lent)) text at

-- the line was read as that says, behind so many operations, of which there are less than 16; the cells before stay as they are, and there are no more than 32,768 if there
-- were no more before
pub record OperationRead (text : List ℕ) (at n operations : ℕ) (lent : List ℕ) (put : ℕ) (after : List ℕ) (r : OperationLine) : Type 0 where
  pub value : (arities : List ℕ) → length arities ≡ operations → operation_progress text at n lent put arities ≡ progress_of n arities after r
  pub reached : Reached text at r.next
  pub paced : r.cells + at ≤ put + r.next
  pub behind : put ≤ r.cells
  pub fit : put ≤ 32768 → r.cells ≤ 32768
  pub stored : r.cells ≤ length lent
  pub before : take put after ≡ take put lent
  pub few : operations < 16

-- the line was refused as that says, and the cells before stay as they are
pub record OperationRefused (text : List ℕ) (at n operations : ℕ) (lent : List ℕ) (put : ℕ) (after : List ℕ) (r : Refusal) : Type 0 where
  pub value : (arities : List ℕ) → length arities ≡ operations → operation_progress text at n lent put arities ≡ refused r
  pub before : take put after ≡ take put lent

-- one or the other
abbrev pub OperationIn : List ℕ → ℕ → ℕ → ℕ → List ℕ → ℕ → List ℕ → Result OperationLine Refusal → Type 0
OperationIn text at n operations lent put after r =
    MatchResult r (OperationRead text at n operations lent put after) (OperationRefused text at n operations lent put after)

-- a request came to what `d` says, and its numbers stand in the storage from `put` on
pub record Requested (text : List ℕ) (at : ℕ) (lent : List ℕ) (put : ℕ) (d : Read Request) (after : List ℕ) (r : RequestLine) : Type 0 where
  pub new : List ℕ
  pub value : d ≡ found (request_of r.asked new) r.next
  pub laid : Laid lent put new after r.end
  pub reached : Reached text at r.next

-- a request was looked for
abbrev pub RequestedIn : List ℕ → ℕ → List ℕ → ℕ → Read Request → List ℕ → Option RequestLine → Type 0
RequestedIn text at lent put d after r = MatchOption r (Faulty text at lent put d after) (Requested text at lent put d after)

-- the same of a reader over lent slices: the text, and the storage before and after
abbrev pub RequestedBy : Reader Request → Bor (List ℕ) → Spot → MutBor (List ℕ) → MutBor (List ℕ) → Option RequestLine → Type 0
RequestedBy read text from lent after r = RequestedIn text.now from.at lent.now from.put (read text.now from.at) after.now r

-- a request that stores nothing came to what `d` says
pub record RequestRead (text : List ℕ) (at put : ℕ) (d : Read Request) (r : RequestLine) : Type 0 where
  pub value : d ≡ found (request_of r.asked []) r.next
  pub end : r.end ≡ put
  pub reached : Reached text at r.next

-- such a request was looked for
abbrev pub RequestReadIn : List ℕ → ℕ → ℕ → Read Request → Option RequestLine → Type 0
RequestReadIn text at put d r = MatchOption r (d ≡ fault) (RequestRead text at put d)
