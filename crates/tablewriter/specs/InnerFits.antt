-- What the writers of tables and lines ask: that the cells are there, and room for the text that is written.
use Rattle.std.specs.Prelude.{ℕ, ◌+◌, ◌*◌, ◌^◌, ◌≤◌, ◌<◌, List, [], ◌∷◌, ◌++◌, map, length, get_or}
use Rattle.equivalence.specs.Lists.{concat}
use Rattle.algebra.specs.Algebra.{Algebra, Operation, algebra_of, operations, cell_count}
use Rattle.numberreader.specs.Reading.{ascii}
use Rattle.writer.specs.Lines.{gap_bytes, spaced}
use Rattle.tablewriter.specs.Texts.{parted_texts, table_text, operation_text, algebra_text}

-- a table of arity s over n elements, and as many of them as are asked for
pub record Shape (n s left : ℕ) : Type 0 where
  pub some : 0 < n
  pub most : n ≤ 64
  pub arity : s ≤ 3
  pub rows : 0 < left
  pub few : left ≤ n

-- so many tables of arity s stand first among the cells, and there is room for their texts and the end of a line
pub record RowsFit (n s left : ℕ) (cells : List ℕ) (put : ℕ) (out : List ℕ) : Type 0 where
  pub shape : Shape n s left
  pub there : left * n ^ s ≤ length cells
  pub room : put + length (parted_texts (table_text n s) (n ^ s) left cells) + 2 ≤ length out

-- the same of one table
pub record TableFits (n s : ℕ) (cells : List ℕ) (put : ℕ) (out : List ℕ) : Type 0 where
  pub shape : Shape n s 1
  pub there : n ^ s ≤ length cells
  pub room : put + length (table_text n s cells) + 2 ≤ length out

-- the operation of this arity with these cells
abbrev pub operation_of : ℕ → List ℕ → Operation
operation_of s cells = record { arity = s; table = cells }

-- `[op 1 `
unfoldable pub arity_text : ℕ → List ℕ
arity_text s = ascii "[op" ++ (spaced (s ∷ []) ++ gap_bytes)

-- a line for each operation, in order
unfoldable pub operations_text : Algebra → List ℕ
operations_text a = concat (map (operation_text a.size) (operations a))

-- an operation's cells are there, and room for its line
pub record OperationFits (n s : ℕ) (cells : List ℕ) (put : ℕ) (out : List ℕ) : Type 0 where
  pub shape : Shape n s 1
  pub there : n ^ s ≤ length cells
  pub room : put + length (operation_text n (operation_of s cells)) ≤ length out

-- 1 to 64 elements, no arity above 3, and the cells of all tables
pub record TablesThere (n : ℕ) (arities cells : List ℕ) : Type 0 where
  pub some : 0 < n
  pub most : n ≤ 64
  pub few : length arities ≤ 16
  pub arity : (j : ℕ) → j < length arities → get_or arities j 0 ≤ 3
  pub there : cell_count n arities ≤ length cells

-- the same, and room for the operation lines
pub record OperationsFit (n : ℕ) (arities cells : List ℕ) (put : ℕ) (out : List ℕ) : Type 0 where
  pub tables : TablesThere n arities cells
  pub room : put + length (operations_text (algebra_of n arities cells)) ≤ length out

-- the same, and room for the text of the algebra
pub record LinesFit (n : ℕ) (arities cells out : List ℕ) : Type 0 where
  pub tables : TablesThere n arities cells
  pub room : length (algebra_text (algebra_of n arities cells)) ≤ length out
