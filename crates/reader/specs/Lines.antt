-- Lines: the size line, operation lines and the five requests, each ended by `]` and byte 10.
use Rattle.std.specs.Prelude.{ℕ, ◌+◌, ◌^◌, not, List, [], ◌∷◌, ◌++◌, ltb, length, ⊤, Result, Ok, Err}
use Rattle.equivalence.specs.Lists.{every}
use Rattle.equivalence.specs.Refusal.{Test, lowest, size_test}
use Rattle.equivalence.specs.declared.Refusal.{Refusal}
use Rattle.equivalence.specs.declared.Refusal.TheVariants.{Operations, Arity, Cells, Cell, Text}
use Rattle.algebra.specs.Algebra.{Algebra, algebra_of}
use Rattle.numberreader.specs.Reading.{ascii, Read, found, fault, Reader, ◌>>=◌, ◌>>◌, done, failed, mark, gap, opened}
use Rattle.numberreader.specs.Numbers.{number}
use Rattle.tablereader.specs.Tables.{cell, table, pair, items}
use Rattle.reader.specs.declared.requests.Asked.{Asked}
use Rattle.reader.specs.declared.requests.Asked.TheVariants.{Generate, Contained, Separate, Decompose, Quotient}

-- the end of a line
unfoldable pub close : Reader (Unit {0})
close = do
  mark "]"
  mark "\n"

-- a number after a gap
unfoldable pub spaced_number : Reader ℕ
spaced_number = do
  gap
  number

-- the size line: `[size 4]`
unfoldable pub size_line : Reader ℕ
size_line = opened (ascii "[size") (do n ← spaced_number; close; done n) failed

-- what an algebra's lines come to: more of the algebra and the place after it, or a refusal
pub data Progress : Type 0 where
  defined : Algebra → ℕ → Progress
  refused : Refusal → Progress

-- goes on where the tests pass, else refuses
unfoldable pub tested : Result ⊤ Refusal → Progress → Progress
tested (Ok x) rest = rest
tested (Err r) rest = refused r

-- the size line is read: 14, then 1
unfoldable pub after_size : Read ℕ → Progress
after_size fault = refused Text
after_size (found n at) = tested (lowest (size_test n ∷ [])) (defined (algebra_of n [] []) at)

-- the size line at a place
unfoldable pub sized : List ℕ → ℕ → Progress
sized text at = after_size (size_line text at)

-- the arity of an operation line and the gap after it, behind `[op`
unfoldable pub arity : Reader ℕ
arity = do
  s ← spaced_number
  gap
  done s

-- the table of an operation line, to the line's end
unfoldable pub last_table : ℕ → ℕ → Reader (List ℕ)
last_table n s = do
  cells ← table n s
  close
  done cells

-- 2, 3 and 4 for one operation more, of arity s on n elements, behind so many operations with so many cells
unfoldable pub operation_tests : ℕ → ℕ → ℕ → ℕ → List Test
operation_tests n operations cells s =
    -- 2: above 16 operations
    record { applies = ltb 16 (operations + 1); reason = Operations }
    -- 3: an arity above 3
    ∷ record { applies = ltb 3 s; reason = Arity }
    -- 4: above 32,768 cells, over all up to and including its own
    ∷ record { applies = ltb 32768 (cells + n ^ s); reason = Cells }
    ∷ []

-- 6: a cell not below n
unfoldable pub cell_test : ℕ → List ℕ → Test
cell_test n cells = record { applies = not (every (λ c. ltb c n) cells); reason = Cell }

-- the algebra with one operation more
unfoldable pub with_operation : Algebra → ℕ → List ℕ → Algebra
with_operation a s cells = algebra_of a.size (a.arities ++ (s ∷ [])) (a.cells ++ cells)

-- the table is read: 14, then 6
unfoldable pub after_table : Algebra → ℕ → Read (List ℕ) → Progress
after_table a s fault = refused Text
after_table a s (found cells at) = tested (lowest (cell_test a.size cells ∷ [])) (defined (with_operation a s cells) at)

-- the arity and the gap after it are read: 14, then 2, 3 or 4, then the table
unfoldable pub after_arity : Algebra → List ℕ → Read ℕ → Progress
after_arity a text fault = refused Text
after_arity a text (found s at) =
    tested (lowest (operation_tests a.size (length a.arities) (length a.cells) s)) (after_table a s (last_table a.size s text at))

-- the rest of an operation line behind `[op`
unfoldable pub operation : Algebra → List ℕ → ℕ → Progress
operation a text at = after_arity a text (arity text at)

-- what a request asks, and the numbers that it lists
pub record Request : Type 0 where
  pub asked : Asked
  pub numbers : List ℕ

-- the request that asks this, with these numbers
abbrev pub request_of : Asked → List ℕ → Request
request_of asked numbers = record { asked = asked; numbers = numbers }

-- the request that names two elements and lists no numbers
abbrev pub separating : ℕ → ℕ → Request
separating v w = request_of (Separate v w) []

-- any count of items, each after a gap, to the line's end
unfoldable pub items_to_end : Reader (List ℕ) → Reader (List ℕ)
items_to_end item = do
  xs ← items item
  close
  done xs

-- a request over such items
unfoldable pub asks_with : Asked → Reader (List ℕ) → Reader Request
asks_with asked item = do
  xs ← items_to_end item
  done (request_of asked xs)

-- two numbers, to the line's end
unfoldable pub two_numbers : Reader Request
two_numbers = do
  v ← spaced_number
  w ← spaced_number
  close
  done (separating v w)

-- a request line: `[generate [0 2]]`, `[contained 0 0 0 3]`, `[separate 0 2]`, `[decompose]` or `[quotient 0 1 0 1]`
unfoldable pub request : Reader Request
request =
    opened (ascii "[generate") (asks_with Generate pair)
    (opened (ascii "[contained") (asks_with Contained cell)
    (opened (ascii "[separate") two_numbers
    (opened (ascii "[decompose]\n") (done (request_of Decompose []))
    (opened (ascii "[quotient") (asks_with Quotient cell) failed))))
