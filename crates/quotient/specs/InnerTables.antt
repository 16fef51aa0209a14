-- The tables of a quotient as the walk over them writes them, from the first argument inwards.
use Rattle.std.specs.Prelude.{ℕ, zero, suc, ◌+◌, ◌*◌, ◌^◌, ◌≤◌, ◌<◌, List, [], ◌∷◌, map, ◌≡◌, length, get_or, take}
use Rattle.std.specs.Borrow.{Bor}
use Rattle.equivalence.specs.Lists.{up_to, concat}
use Rattle.equivalence.specs.Lent.{laid}
use Rattle.equivalence.specs.Equivalence.{byte}
use Rattle.algebra.specs.Algebra.{cell_count}

-- g 0, g 1 and so on up to g (k - 1), one after the other
unfoldable pub concat_up_to : (ℕ → List ℕ) → ℕ → List ℕ
concat_up_to g k = concat (map g (up_to k))

-- arity 0: the block number of the cell at a place
abbrev pub cell_divided : List ℕ → List ℕ → ℕ → List ℕ
cell_divided cells numbers from = byte numbers (byte cells from) ∷ []

-- arity 1: the block numbers of the cells at the smallest members
abbrev pub row_divided : List ℕ → List ℕ → List ℕ → ℕ → List ℕ
row_divided cells numbers names from = concat_up_to (λ k. cell_divided cells numbers (from + byte names k)) (length names)

-- what a quotient's tables are made from: the size, the cells, each element's block number and each block's smallest member
pub record Source : Type 0 where
  pub size : ℕ
  pub cells : List ℕ
  pub numbers : List ℕ
  pub names : List ℕ

-- the source that a call is handed
abbrev pub source_of : ℕ → List ℕ → List ℕ → List ℕ → Source
source_of n cells numbers names = record { size = n; cells = cells; numbers = numbers; names = names }

-- the same, handed in lent slices
abbrev pub source_in : ℕ → Bor (List ℕ) → Bor (List ℕ) → Bor (List ℕ) → Source
source_in n cells numbers names = source_of n cells.now numbers.now names.now

-- the table over blocks of the operation of arity s whose table begins at `from`: one block of a first argument after the other, each read at its smallest member
unfoldable pub divided : Source → ℕ → ℕ → List ℕ
divided q zero from = cell_divided q.cells q.numbers from
divided q (suc s) from = concat_up_to (λ k. divided q s (from + byte q.names k * q.size ^ s)) (length q.names)

-- every cell is an element and so is every smallest member; each element has a number and each block one smallest member
pub record SourceRight (q : Source) : Type 0 where
  pub most : q.size ≤ 64
  pub few : length q.names ≤ q.size
  pub cell : (c : ℕ) → c < length q.cells → byte q.cells c < q.size
  pub first : (k : ℕ) → k < length q.names → byte q.names k < q.size
  pub numbers : q.size ≤ length q.numbers

-- a table of arity s lies within the cells, and its quotient's within the lent bytes
pub record Fits (q : Source) (s from : ℕ) (lent : List ℕ) (to : ℕ) : Type 0 where
  pub source : from + q.size ^ s ≤ length q.cells
  pub target : to + length q.names ^ s ≤ length lent

-- the row that begins at `from` lies within the cells, each of its cells has a number, and its quotient lies within the lent bytes
pub record RowFits (cells numbers names : List ℕ) (from : ℕ) (lent : List ℕ) (to : ℕ) : Type 0 where
  pub cell : (k : ℕ) → k < length names → from + byte names k < length cells
  pub number : (k : ℕ) → k < length names → byte cells (from + byte names k) < length numbers
  pub target : to + length names ≤ length lent

-- the table over blocks of operation j, whose table begins behind those of the operations before it
abbrev pub divided_at : Source → List ℕ → ℕ → List ℕ
divided_at q arities j = divided q (get_or arities j 0) (cell_count q.size (take j arities))

-- the tables over blocks of all operations, one after the other, were laid at the start of the lent bytes
abbrev pub AllDivided : Source → List ℕ → List ℕ → List ℕ → Type 0
AllDivided q arities lent after = after ≡ laid lent 0 (concat_up_to (divided_at q arities) (length arities))

-- no arity is above 3, the tables lie within the cells, and their quotients' within the lent bytes
pub record AllFit (q : Source) (arities lent : List ℕ) : Type 0 where
  pub arity : (j : ℕ) → j < length arities → get_or arities j 0 ≤ 3
  pub source : cell_count q.size arities ≤ length q.cells
  pub target : cell_count (length q.names) arities ≤ length lent
