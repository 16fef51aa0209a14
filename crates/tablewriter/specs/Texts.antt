-- The text of an algebra: its size line and its operation lines, as document 01 reads them.
use Rattle.std.specs.Prelude.{ℕ, zero, suc, ◌^◌, List, [], ◌∷◌, ◌++◌, map, get_or, drop}
use Rattle.equivalence.specs.Lists.{concat}
use Rattle.algebra.specs.Algebra.{Algebra, Operation, operations}
use Rattle.numberreader.specs.Reading.{ascii}
use Rattle.writer.specs.Numerals.{decimal}
use Rattle.writer.specs.Lines.{gap_bytes, spaced, line}

-- k tables parted by gaps; each begins so many cells behind the one before it
unfoldable pub parted_texts : (List ℕ → List ℕ) → ℕ → ℕ → List ℕ → List ℕ
parted_texts text width zero cells = []
parted_texts text width (suc zero) cells = text cells
parted_texts text width (suc (suc k)) cells = text cells ++ (gap_bytes ++ parted_texts text width (suc k) (drop width cells))

-- the table that the cells begin with: of arity 0 a number; of arity s a bracket of n tables of arity s − 1
unfoldable pub table_text : ℕ → ℕ → List ℕ → List ℕ
table_text n zero cells = decimal (get_or cells 0 0)
table_text n (suc s) cells = ascii "[" ++ (parted_texts (table_text n s) (n ^ s) n cells ++ ascii "]")

-- `[size 4]`
unfoldable pub size_text : ℕ → List ℕ
size_text n = line (ascii "[size") (spaced (n ∷ []))

-- `[op 1 [1 0 3 2]]`
unfoldable pub operation_text : ℕ → Operation → List ℕ
operation_text n f = line (ascii "[op") (spaced (f.arity ∷ []) ++ (gap_bytes ++ table_text n f.arity f.table))

-- the size line and a line for each operation, in order
unfoldable pub algebra_text : Algebra → List ℕ
algebra_text a = size_text a.size ++ concat (map (operation_text a.size) (operations a))
