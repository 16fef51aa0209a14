-- What taking the lines of an algebra one by one promises: the algebra so far, what a line makes of it, and what stays of the lent slices.
use Rattle.std.specs.Prelude.{ℕ, ◌+◌, ◌≤◌, ◌<◌, List, ◌≡◌, Result, Ok, Err, MatchResult, length, take, drop}
use Rattle.equivalence.specs.declared.Refusal.{Refusal}
use Rattle.algebra.specs.Algebra.{Algebra, algebra_of}
use Rattle.reader.specs.Lines.{Progress, defined, refused, sized, operation}
use Rattle.reader.specs.declared.taking.AlgebraSoFar.{AlgebraSoFar}

-- the algebra so far: its arities and its cells stand first in two lent slices
abbrev pub algebra_so_far : AlgebraSoFar → List ℕ → List ℕ → Algebra
algebra_so_far a arities cells = algebra_of a.size (take a.operations arities) (take a.cells cells)

-- what lines came to, with these slices after them
abbrev pub progress_with : Result AlgebraSoFar Refusal → List ℕ → List ℕ → Progress
progress_with (Ok a) arities cells = defined (algebra_so_far a arities cells) a.at
progress_with (Err r) arities cells = refused r

-- an algebra that lines of the text can come to
pub record Readable (text : List ℕ) (a : AlgebraSoFar) : Type 0 where
  pub within : a.at ≤ length text
  pub some : 0 < a.size
  pub most : a.size ≤ 64
  pub few : a.operations ≤ 16
  pub fit : a.cells ≤ 32768

-- a size line was taken: the algebra is what it says, and nothing is stored
pub record SizeTaken (text : List ℕ) (at : ℕ) (a : AlgebraSoFar) : Type 0 where
  pub value : (arities cells : List ℕ) → sized text at ≡ progress_with (Ok a) arities cells
  pub readable : Readable text a
  pub past : at < a.at
  pub operations : a.operations ≡ 0
  pub cells : a.cells ≡ 0

-- it was taken, or refused
abbrev pub SizeIn : List ℕ → ℕ → Result AlgebraSoFar Refusal → Type 0
SizeIn text at r = MatchResult r (SizeTaken text at) (λ x. sized text at ≡ refused x)

-- what lines leave of the lent slices: the arities and the cells that were in use stay as they are, and so do the arities behind those that are in use afterwards
pub record KeptSoFar (a : AlgebraSoFar) (arities cells : List ℕ) (a' : AlgebraSoFar) (arities' cells' : List ℕ) : Type 0 where
  pub no_fewer : a.operations ≤ a'.operations
  pub behind : a.cells ≤ a'.cells
  pub used_arities : take a.operations arities' ≡ take a.operations arities
  pub spare_arities : drop a'.operations arities' ≡ drop a'.operations arities
  pub used_cells : take a.cells cells' ≡ take a.cells cells

-- an operation line was taken: the algebra has one operation more; each operation, and each cell, takes a byte of the text at least
pub record OperationTaken (text : List ℕ) (a : AlgebraSoFar) (arities cells arities' cells' : List ℕ) (b : AlgebraSoFar) : Type 0 where
  pub value : operation (algebra_so_far a arities cells) text (a.at + 3) ≡ progress_with (Ok b) arities' cells'
  pub readable : Readable text b
  pub past : a.at < b.at
  pub counted : b.operations ≤ a.operations + 1
  pub paced : b.cells + a.at ≤ a.cells + b.at
  pub stored : b.cells ≤ length cells
  pub kept : KeptSoFar a arities cells b arities' cells'

-- an operation line was refused: the arities stay as they are, and so do the cells that were in use
pub record OperationUntaken (text : List ℕ) (a : AlgebraSoFar) (arities cells arities' cells' : List ℕ) (r : Refusal) : Type 0 where
  pub value : operation (algebra_so_far a arities cells) text (a.at + 3) ≡ refused r
  pub used_arities : arities' ≡ arities
  pub used_cells : take a.cells cells' ≡ take a.cells cells

-- one or the other
abbrev pub OperationLineIn : List ℕ → AlgebraSoFar → List ℕ → List ℕ → List ℕ → List ℕ → Result AlgebraSoFar Refusal → Type 0
OperationLineIn text a arities cells arities' cells' r =
    MatchResult r (OperationTaken text a arities cells arities' cells') (OperationUntaken text a arities cells arities' cells')
