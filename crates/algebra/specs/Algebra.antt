-- A finite algebra by its operation tables.
use Rattle.std.specs.Prelude.{ℕ, zero, suc, ◌+◌, ◌*◌, ◌^◌, List, [], ◌∷◌, map, length, get_or, take, drop}
use Rattle.std.specs.Borrow.{Bor}
use Rattle.equivalence.specs.Lists.{up_to, concat}

-- the elements 0 to size - 1, the arity of each operation, and the cells of all tables
pub record Algebra : Type 0 where
  pub size : ℕ
  pub arities : List ℕ
  pub cells : List ℕ

-- the algebra that a call is handed
abbrev pub algebra_of : ℕ → List ℕ → List ℕ → Algebra
algebra_of n arities cells = record { size = n; arities = arities; cells = cells }

-- the same, handed in lent slices
abbrev pub algebra_in : ℕ → Bor (List ℕ) → Bor (List ℕ) → Algebra
algebra_in n arities cells = algebra_of n arities.now cells.now

-- an operation: its arity and its table
pub record Operation : Type 0 where
  pub arity : ℕ
  pub table : List ℕ

-- how many cells the tables have together: n^s for each arity s
unfoldable pub cell_count : ℕ → List ℕ → ℕ
cell_count n [] = 0
cell_count n (s ∷ rest) = n ^ s + cell_count n rest

-- tables follow each other in operation order, n^s cells for arity s
unfoldable pub operations_of : ℕ → List ℕ → List ℕ → List Operation
operations_of n [] cells = []
operations_of n (s ∷ rest) cells = record { arity = s; table = take (n ^ s) cells } ∷ operations_of n rest (drop (n ^ s) cells)

-- the operations of an algebra
unfoldable pub operations : Algebra → List Operation
operations a = operations_of a.size a.arities a.cells

-- the argument lists of length s, in the order of their places
unfoldable pub arguments : ℕ → ℕ → List (List ℕ)
arguments n zero = [] ∷ []
arguments n (suc s) = concat (map (λ x. map (λ t. x ∷ t) (arguments n s)) (up_to n))

-- the place of arguments (a1, .., as): a1 × n^(s−1) + .. + as
unfoldable pub place : ℕ → List ℕ → ℕ
place n [] = 0
place n (x ∷ rest) = x * n ^ length rest + place n rest

-- the operation's value at an argument list
unfoldable pub value : ℕ → Operation → List ℕ → ℕ
value n f xs = get_or f.table (place n xs) 0
