-- What the inner functions of a run promise each other: a step, and a line with what it lays.
use Rattle.std.specs.Prelude.{ℕ, ◌+◌, ◌≤◌, Bool, true, false, List, [], ◌≡◌, ltb, length, Result, Ok, Err}
use Rattle.std.specs.Borrow.{Bor, MutBor}
use Rattle.equivalence.specs.declared.Refusal.{Refusal}
use Rattle.bracket.specs.Transcript.{State, Step, goes, ends, first_step}
use Rattle.bracket.specs.Fills.{due, piece_of, position_after}
use Rattle.bracket.specs.Standings.{state_of, position_of, standing_room, Sound, Kept, Filling}
use Rattle.kernel.specs.InnerKernel.{bit}
use Rattle.tablereader.specs.Laying.{Laid}
use Rattle.reader.specs.declared.taking.AlgebraSoFar.{AlgebraSoFar}
use Rattle.writer.specs.Lines.{refused_line}
use Rattle.bracket.specs.declared.run.Standing.{Standing}
use Rattle.bracket.specs.declared.run.Stepped.{Stepped}

-- a step that writes a piece, and goes on from a state or ends
abbrev pub step_of : Bool → List ℕ → State → Step
step_of true piece s = goes piece s
step_of false piece s = ends piece

-- the lent slices are long enough for the line at a standing
pub record Lent (text : List ℕ) (s : Standing) (arities room out : List ℕ) : Type 0 where
  pub sixteen : 16 ≤ length arities
  pub storage : length text ≤ length room
  pub line : standing_room s ≤ length out

-- a step came to what `d` says: it wrote the piece, and nothing after it; the lent slices hold the arities and the cells
pub record Stepping (text : List ℕ) (at : ℕ) (d : Step) (lent arities room out : List ℕ) (r : Stepped) : Type 0 where
  pub piece : List ℕ
  pub value : d ≡ step_of r.standing.goes piece (state_of r.standing arities room)
  pub laid : Laid lent 0 piece out r.wrote
  pub sound : Sound text r.standing
  pub past : at + bit r.standing.goes ≤ r.standing.at

-- the steps over lent slices: the text, the arities, the room and the output before, and the last three after
abbrev pub StepIn : (List ℕ → State → Step) → List ℕ → Standing → List ℕ → List ℕ → List ℕ → List ℕ → List ℕ → List ℕ → Stepped → Type 0
StepIn step text s arities room lent arities' room' out r =
    Stepping text s.at (step text (state_of s arities room)) lent arities' room' out r

-- the step that is due
abbrev pub DueIn : Bor (List ℕ) → Standing → MutBor (List ℕ) → MutBor (List ℕ) → MutBor (List ℕ) → MutBor (List ℕ) → MutBor (List ℕ) → MutBor (List ℕ) → Stepped → Type 0
DueIn text s arities room lent arities' room' out r =
    Stepping text.now s.at (due text.now (position_of s arities.now room.now)) lent.now arities'.now room'.now out.now r

-- the first step, which stores nothing
abbrev pub FirstStepIn : Bor (List ℕ) → MutBor (List ℕ) → MutBor (List ℕ) → Stepped → Type 0
FirstStepIn text lent out r = (arities room : List ℕ) → Stepping text.now 0 (first_step text.now) lent.now arities room out.now r

-- where a run stands behind the lines of its algebra, before any request
abbrev pub behind_lines : AlgebraSoFar → Standing
behind_lines a = record { goes = true; at = a.at; size = a.size; operations = a.operations; cells = a.cells; requested = false }

-- a run that is over where it stands
abbrev pub stopped : Standing → Standing
stopped s = record { goes = false; at = s.at; size = s.size; operations = s.operations; cells = s.cells; requested = s.requested }

-- a refusal was written, and the run is over
pub record RefusedAt (r : Refusal) (s : Standing) (lent out : List ℕ) (t : Stepped) : Type 0 where
  pub standing : t.standing ≡ stopped s
  pub laid : Laid lent 0 (refused_line r) out t.wrote

-- where a line of the algebra leads from a standing
abbrev pub standing_after : Result AlgebraSoFar Refusal → Standing → Standing
standing_after (Ok a) s = behind_lines a
standing_after (Err r) s = stopped s

-- what it writes: nothing, or its refusal
abbrev pub piece_for : Result AlgebraSoFar Refusal → List ℕ
piece_for (Ok a) = []
piece_for (Err r) = refused_line r

-- a line of the algebra was taken up by the run
pub record AfterLine (l : Result AlgebraSoFar Refusal) (s : Standing) (lent out : List ℕ) (r : Stepped) : Type 0 where
  pub standing : r.standing ≡ standing_after l s
  pub laid : Laid lent 0 (piece_for l) out r.wrote

-- a standing in a text of so many bytes: at the end of the text the run is over
unfoldable pub closed_at : Standing → ℕ → Standing
closed_at s end = elim (ltb s.at end) [ true ↦ s | false ↦ stopped s ]

-- one line was taken: what it writes was laid, and nothing after it
pub record Lined (text : List ℕ) (s : Standing) (arities room lent arities' room' out : List ℕ) (r : Stepped) : Type 0 where
  pub position : position_of r.standing arities' room' ≡ position_after text (due text (position_of s arities room))
  pub laid : Laid lent 0 (piece_of (due text (position_of s arities room))) out r.wrote
  pub sound : Sound text r.standing
  pub kept : Kept s arities room r.standing arities' room'

-- a line over lent slices: the text, the arities, the room and the output before, and the last three after
abbrev pub LinedIn : Bor (List ℕ) → Standing → MutBor (List ℕ) → MutBor (List ℕ) → MutBor (List ℕ) → MutBor (List ℕ) → MutBor (List ℕ) → MutBor (List ℕ) → Stepped → Type 0
LinedIn text s arities room lent arities' room' out r =
    Lined text.now s arities.now room.now lent.now arities'.now room'.now out.now r

-- the same of a fill
abbrev pub FillingIn : Bor (List ℕ) → Standing → MutBor (List ℕ) → MutBor (List ℕ) → MutBor (List ℕ) → MutBor (List ℕ) → MutBor (List ℕ) → MutBor (List ℕ) → Stepped → Type 0
FillingIn text s arities room lent arities' room' out r =
    Filling text.now s arities.now room.now lent.now arities'.now room'.now out.now r
