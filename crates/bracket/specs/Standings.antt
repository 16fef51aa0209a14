-- The run as the program keeps it: a standing, and lent slices that hold the arities and the cells. What its fills lay and where they lead is what `Fills` says.
use Rattle.std.specs.Prelude.{ℕ, zero, suc, ◌≤◌, ◌<◌, Bool, true, false, ◌&&◌, List, ◌≡◌, T, leb, length, take, drop}
use Rattle.std.specs.Borrow.{Bor, MutBor}
use Rattle.algebra.specs.Algebra.{algebra_of}
use Rattle.bracket.specs.Transcript.{State}
use Rattle.answers.specs.Room.{line_room}
use Rattle.bracket.specs.Fills.{Position, fresh, midway, over, Fill}
use Rattle.tablereader.specs.Laying.{Laid}
use Rattle.bracket.specs.declared.run.Standing.{Standing}
use Rattle.bracket.specs.declared.run.Stepped.{Stepped}

-- the state that a standing and the lent slices make
abbrev pub state_of : Standing → List ℕ → List ℕ → State
state_of s arities room =
    record { at = s.at; algebra = algebra_of s.size (take s.operations arities) (take s.cells room); requested = s.requested }

-- the position of a run that goes on or not, with its next line at this byte
abbrev pub position_by : Bool → ℕ → State → Position
position_by false at s = over
position_by true zero s = fresh
position_by true (suc at) s = midway s

-- the position that a standing and the lent slices make
abbrev pub position_of : Standing → List ℕ → List ℕ → Position
position_of s arities room = position_by s.goes s.at (state_of s arities room)

-- a standing that a run over the text can come to
pub record Sound (text : List ℕ) (s : Standing) : Type 0 where
  pub within : s.at ≤ length text
  pub some : 0 < s.size
  pub most : s.size ≤ 64
  pub few : s.operations ≤ 16
  pub counted : s.operations ≤ s.at
  pub fit : s.cells ≤ 32768
  pub paced : s.cells ≤ s.at

-- what lines leave of the lent slices: the arities and the cells that were in use stay as they are, and so do the arities behind those that are in use afterwards; the
-- cells behind those in use are open
pub record Kept (s : Standing) (arities room : List ℕ) (s' : Standing) (arities' room' : List ℕ) : Type 0 where
  pub operations : s.operations ≤ s'.operations
  pub cells : s.cells ≤ s'.cells
  pub used_arities : take s.operations arities' ≡ take s.operations arities
  pub spare_arities : drop s'.operations arities' ≡ drop s'.operations arities
  pub used_cells : take s.cells room' ≡ take s.cells room

-- a fill was made: its bytes were laid, and nothing after them
pub record Filling (text : List ℕ) (s : Standing) (arities room lent arities' room' out : List ℕ) (r : Stepped) : Type 0 where
  pub bytes : List ℕ
  pub fill : Fill text (length lent) (position_of s arities room) bytes (position_of r.standing arities' room')
  pub laid : Laid lent 0 bytes out r.wrote
  pub sound : Sound text r.standing
  pub kept : Kept s arities room r.standing arities' room'

-- a run of which no line is read; it goes on, or it is over
abbrev pub unread : Bool → Standing
unread b = record { goes = b; at = 0; size = 1; operations = 0; cells = 0; requested = false }

-- the room that a line at this byte may want over n elements and so many cells: at the first byte there is no algebra yet
abbrev pub room_from : ℕ → ℕ → ℕ → ℕ
room_from zero n cells = line_room 1 0
room_from (suc at) n cells = line_room n cells

-- the room that the line at a standing may want
abbrev pub standing_room : Standing → ℕ
standing_room s = room_from s.at s.size s.cells

-- the run goes on, from a standing that a run over a text of so many bytes can come to, and slices of these lengths are enough
unfoldable pub can_fill : ℕ → Standing → ℕ → ℕ → ℕ → Bool
can_fill text s arities room out =
    s.goes
    && (leb s.at text
    && (leb 1 s.size
    && (leb s.size 64
    && (leb s.operations 16
    && (leb s.operations s.at
    && (leb s.cells 32768 && (leb s.cells s.at && (leb 16 arities && (leb text room && leb (standing_room s) out)))))))))

-- what `fill` does: a fill from where the run stands, or nothing, and the run is over
pub record FillPromise (text : List ℕ) (s : Standing) (arities room lent arities' room' out : List ℕ) (r : Stepped) : Type 0 where
  pub fills : T (can_fill (length text) s (length arities) (length room) (length lent)) → Filling text s arities room lent arities' room' out r
  pub idles : ¬ T (can_fill (length text) s (length arities) (length room) (length lent))
      → (r ≡ record { standing = unread false; wrote = 0 }) × (arities' ≡ arities) × (room' ≡ room) × (out ≡ lent)

-- the same of lent slices: the text, the arities, the room and the output before, and the last three after
abbrev pub FillPromiseIn : Bor (List ℕ) → Standing → MutBor (List ℕ) → MutBor (List ℕ) → MutBor (List ℕ) → MutBor (List ℕ) → MutBor (List ℕ) → MutBor (List ℕ) → Stepped → Type 0
FillPromiseIn text s arities room lent arities' room' out r =
    FillPromise text.now s arities.now room.now lent.now arities'.now room'.now out.now r
