-- Items, brackets and tables. Items in a bracket are parted by a gap, with none inside the ends.
use Rattle.std.specs.Prelude.{ℕ, zero, suc, List, [], ◌∷◌, ◌++◌, length}
use Rattle.numberreader.specs.Reading.{Reader, ◌>>=◌, ◌>>◌, done, failed, mark, gap, behind}
use Rattle.numberreader.specs.Numbers.{number}

-- a number, as a list of one
unfoldable pub cell : Reader (List ℕ)
cell = do
  v ← number
  done (v ∷ [])

-- k items parted by gaps
unfoldable pub parted : Reader (List ℕ) → ℕ → Reader (List ℕ)
parted item zero = failed
parted item (suc zero) = item
parted item (suc (suc k)) = do
  xs ← item
  gap
  ys ← parted item (suc k)
  done (xs ++ ys)

-- a bracket of k items
unfoldable pub bracket : Reader (List ℕ) → ℕ → Reader (List ℕ)
bracket item k = do
  mark "["
  xs ← parted item k
  mark "]"
  done xs

-- a table of arity 0 is a number; a table of arity s is a bracket of n tables of arity s − 1
unfoldable pub table : ℕ → ℕ → Reader (List ℕ)
table n zero = cell
table n (suc s) = bracket (table n s) n

-- a pair is a bracket of two numbers
unfoldable pub pair : Reader (List ℕ)
pair = bracket cell 2

-- at most k items, as many as there are, each after a gap
unfoldable pub items_up_to : ℕ → Reader (List ℕ) → Reader (List ℕ)
items_up_to zero item = done []
items_up_to (suc k) item = behind gap (do xs ← item; ys ← items_up_to k item; done (xs ++ ys)) (done [])

-- any count of items, each after a gap: a text has no more items than bytes
unfoldable pub items : Reader (List ℕ) → Reader (List ℕ)
items item = λ text at. items_up_to (length text) item text at
