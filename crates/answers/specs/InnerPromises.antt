-- What inner functions promise each other: the line that a request is answered with, and the bytes and the room that they are lent.
use Rattle.std.specs.Prelude.{ℕ, ◌+◌, ◌*◌, ◌≤◌, ◌<◌, List, ◌≡◌, length, replicate, Result, Ok}
use Rattle.std.specs.Borrow.{MutBor}
use Rattle.algebra.specs.Algebra.{Algebra}
use Rattle.theory.specs.Decompose.{most_factor_space}
use Rattle.equivalence.specs.declared.Refusal.{Refusal}
use Rattle.congruence.specs.Decomposed.{Decomposed}
use Rattle.congruence.specs.Decomposed.TheVariants.{Factors}
use Rattle.tablewriter.specs.InnerFits.{LinesFit}
use Rattle.tablereader.specs.Laying.{Laid}
use Rattle.reader.specs.declared.requests.Asked.{Asked}
use Rattle.answers.specs.Answers.{answer}
use Rattle.answers.specs.Room.{line_room}

-- the answer to what is asked was laid in a lent slice, from its start to this place
abbrev pub Answered : Algebra → Asked → List ℕ → MutBor (List ℕ) → MutBor (List ℕ) → ℕ → Type 0
Answered a asked numbers lent out end = Laid lent.now 0 (answer a asked numbers) out.now end

-- an algebra of n elements and so many cells, and room for its longest line
pub record LineFits (n cells : ℕ) (out : List ℕ) : Type 0 where
  pub some : 0 < n
  pub most : n ≤ 64
  pub fit : cells ≤ 32768
  pub line : line_room n cells ≤ length out

-- a map of 1 to 64 bytes, and room for a line of it
pub record MapFits (map out : List ℕ) : Type 0 where
  pub some : 0 < length map
  pub line : 4 * length map + 18 ≤ length out

-- Decompose's answer over n elements, the list that it was lent, and room for a line
pub record FactorsFit (answer : Result Decomposed Refusal) (n : ℕ) (factors out : List ℕ) : Type 0 where
  pub some : 0 < n
  pub most : n ≤ 64
  pub line : 258 * n + 22 ≤ length out
  pub list : length factors ≡ most_factor_space n
  pub few : (k : ℕ) → answer ≡ Ok (Factors k) → k < n

-- Quotient's answer over these arities, the cells that it wrote, and room for the lines
pub record QuotientFits (answer : Result ℕ Refusal) (arities cells out : List ℕ) : Type 0 where
  pub line : 14 ≤ length out
  pub lines : (b : ℕ) → answer ≡ Ok b → LinesFit b arities cells out

-- k zero bytes for what a service writes, and room for a line over n elements and so many cells
pub record Zeros (k n cells : ℕ) (bytes out : List ℕ) : Type 0 where
  pub zeros : bytes ≡ replicate k 0
  pub fits : LineFits n cells out
