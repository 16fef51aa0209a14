-- A run in fills: lines are taken, and what they write is laid, until the run is over or the room gets short.
use Rattle.std.specs.Prelude.{ℕ, ◌-◌, ◌≤◌, ◌<◌, true, false, List, [], ◌∷◌, ◌++◌, leb, length}
use Rattle.answers.specs.Room.{line_room}
use Rattle.bracket.specs.Transcript.{State, Step, goes, ends, first_step, step}

-- where a run stands: before its first line, before another, or at its end
pub data Position : Type 0 where
  fresh : Position
  midway : State → Position
  over : Position

-- the room that the line at a position may want
unfoldable pub room_at : Position → ℕ
room_at fresh = line_room 1 0
room_at (midway s) = line_room s.algebra.size (length s.algebra.cells)
room_at over = 0

-- the step that is due at a position
unfoldable pub due : List ℕ → Position → Step
due text fresh = first_step text
due text (midway s) = step text s
due text over = ends []

-- what a step writes
unfoldable pub piece_of : Step → List ℕ
piece_of (goes piece s) = piece
piece_of (ends piece) = piece

-- where a step leads; behind the last byte of the text the run is over
unfoldable pub position_after : List ℕ → Step → Position
position_after text (goes piece s) = elim (leb (length text) s.at) [ true ↦ over | false ↦ midway s ]
position_after text (ends piece) = over

-- a fill of so much room, from a position to a position: its bytes are what the steps between them write, in order; it ends where the run is over, or where the next line may
-- want more than the room that is left
pub data Fill (text : List ℕ) : ℕ → Position → List ℕ → Position → Type 0 where
  ended : {room : ℕ} → Fill text room over [] over
  short : {room : ℕ} {p : Position} → room < room_at p → Fill text room p [] p
  takes : {room : ℕ} {p q : Position} {more : List ℕ} → room_at p ≤ room → Fill text (room - length (piece_of (due text p))) (position_after text (due text p)) more q
      → Fill text room p (piece_of (due text p) ++ more) q

-- the bytes of the fills of a run from a position on, each fill from where the one before it ended, to the end of the run
pub data Fills (text : List ℕ) : Position → List (List ℕ) → Type 0 where
  finished : Fills text over []
  onwards : {room : ℕ} {p q : Position} {bytes : List ℕ} {rest : List (List ℕ)} → Fill text room p bytes q → Fills text q rest → Fills text p (bytes ∷ rest)
