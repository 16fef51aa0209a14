-- How long the text of an algebra is, by its tables' brackets and gaps and its cells' digits.
use Rattle.std.specs.Prelude.{ℕ, zero, suc, ◌+◌, ◌*◌, ◌≤◌, List, [], ◌∷◌, ◌≡◌, length}
use Rattle.algebra.specs.Algebra.{cell_count}
use Rattle.writer.specs.Numerals.{decimal}
use Rattle.writer.specs.InnerRoom.{NumbersBelow}
use Rattle.tablewriter.specs.InnerFits.{TablesThere}

-- the brackets and gaps of a table of arity s over n elements
unfoldable pub frame : ℕ → ℕ → ℕ
frame n zero = 0
frame n (suc s) = n * frame n s + (n + 1)

-- what the operation lines have beside their cells: eight bytes each, and their tables' brackets and gaps
unfoldable pub frames : ℕ → List ℕ → ℕ
frames n [] = 0
frames n (s ∷ rest) = 8 + frame n s + frames n rest

-- how many digits numbers have together
unfoldable pub figures : List ℕ → ℕ
figures [] = 0
figures (x ∷ rest) = length (decimal x) + figures rest

-- the tables of an algebra whose elements have two digits at most, and no cell behind them
pub record Measurable (n : ℕ) (arities cells : List ℕ) : Type 0 where
  pub tables : TablesThere n arities cells
  pub all : length cells ≡ cell_count n arities
  pub few : length cells ≤ 32768
  pub short : NumbersBelow 100 cells
