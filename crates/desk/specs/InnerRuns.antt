-- What the program lends to a run, and what is written out where a run paused.
use Rattle.std.specs.Prelude.{ℕ, ◌+◌, ◌*◌, ◌≤◌, List, ◌≡◌, length, drop}
use Rattle.std.specs.Borrow.{Bor, MutBor}
use Rattle.bracket.specs.Transcript.{transcript}
use Rattle.bracket.specs.Standings.{position_of, Sound}
use Rattle.bracket.specs.InnerRemaining.{remaining, distance}
use Rattle.desk.specs.declared.Paused.{Paused}

-- the text is no longer than what was lent for it, there is storage for its arities and cells, and no more room for output than the longest line wants
pub record Lends (text arities room out : List ℕ) : Type 0 where
  pub most : length text ≤ 65537
  pub sixteen : 16 ≤ length arities
  pub storage : length text ≤ length room
  pub few : length out ≤ 131328

-- the same, and just as much room for output
pub record LendsMost (text arities room out : List ℕ) : Type 0 where
  pub lends : Lends text arities room out
  pub long : 131328 ≡ length out

-- the bytes that are written out are the first of the transcript, and the run, whose arities and cells stand in these slices, still writes the others; the bytes are few, by
-- how far the run has come
pub record WrittenOut (text arities room : List ℕ) (p : Paused) : Type 0 where
  pub sound : Sound text p.standing
  pub within : p.written ≤ length (transcript text)
  pub rest : drop p.written (transcript text) ≡ remaining text (position_of p.standing arities room)
  pub bounded : p.written + 131328 * distance text (position_of p.standing arities room) ≤ 131328 * (length text + 2)

-- the same of lent slices
abbrev pub WrittenOutIn : Bor (List ℕ) → MutBor (List ℕ) → MutBor (List ℕ) → Paused → Type 0
WrittenOutIn text arities room p = WrittenOut text.now arities.now room.now p

-- what is left of a run: its arities and cells stand first in these slices, which are no longer than the storage for the longest text
pub record LeftOver (text arities cells : List ℕ) (p : Paused) : Type 0 where
  pub most : length text ≤ 65537
  pub written : WrittenOut text arities cells p
  pub operations : p.standing.operations ≤ length arities
  pub sixteen : length arities ≤ 16
  pub stored : p.standing.cells ≤ length cells
  pub few : length cells ≤ 65537
