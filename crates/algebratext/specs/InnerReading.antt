-- What the inner functions of the reader promise each other: the lines of a whole text, and what the reader does with enough bytes lent.
use Rattle.std.specs.Prelude.{ℕ, ◌≤◌, List, ◌≡◌, drop, Result, Ok, MatchResult}
use Rattle.equivalence.specs.declared.Refusal.{Refusal}
use Rattle.reader.specs.Lines.{refused}
use Rattle.reader.specs.InnerTaking.{progress_with}
use Rattle.reader.specs.declared.taking.AlgebraSoFar.{AlgebraSoFar}
use Rattle.algebratext.specs.Whole.{whole_algebra}
use Rattle.algebratext.specs.Calls.{algebra_read, cells_read}
use Rattle.algebratext.specs.declared.AlgebraRead.{AlgebraRead}

-- the lines of a whole text were taken: the algebra that they come to stands first in two slices, and the arities behind it are as they were lent
pub record LinesTaken (text lent arities cells : List ℕ) (a : AlgebraSoFar) : Type 0 where
  pub value : whole_algebra text ≡ progress_with (Ok a) arities cells
  pub few : a.operations ≤ 16
  pub fit : a.cells ≤ 32768
  pub spare : drop a.operations arities ≡ drop a.operations lent

-- they were taken, or one was refused
abbrev pub LinesIn : List ℕ → List ℕ → List ℕ → List ℕ → Result AlgebraSoFar Refusal → Type 0
LinesIn text lent arities cells r = MatchResult r (LinesTaken text lent arities cells) (λ x. whole_algebra text ≡ refused x)

-- the reader's answer, and the lent bytes after it, where enough are lent
unfoldable pub whole_call : List ℕ → List ℕ → Result AlgebraRead Refusal × List ℕ
whole_call text lent = (algebra_read (whole_algebra text), cells_read (whole_algebra text) lent)
