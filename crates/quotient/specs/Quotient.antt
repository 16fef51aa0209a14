-- The quotient of an algebra by a congruence: an algebra of blocks, numbered by smallest member.
use Rattle.std.specs.Prelude.{ℕ, List, map, get_or}
use Rattle.equivalence.specs.Lists.{concat}
use Rattle.equivalence.specs.Equivalence.{Map, names_of, blocks, block_of}
use Rattle.algebra.specs.Algebra.{Algebra, Operation, operations, arguments, value}

-- the operation's table over blocks: at each list of blocks, the block of the result at their smallest members
unfoldable pub quotient_table : ℕ → Map → Operation → List ℕ
quotient_table n m f = map (λ bs. block_of m (value n f (map (λ b. get_or (names_of n m) b 0) bs))) (arguments (blocks n m) f.arity)

-- the tables of all operations over blocks, one after the other
unfoldable pub quotient_cells : Algebra → Map → List ℕ
quotient_cells a m = concat (map (quotient_table a.size m) (operations a))

-- the algebra of blocks
unfoldable pub quotient : Algebra → Map → Algebra
quotient a m = record { size = blocks a.size m; arities = a.arities; cells = quotient_cells a m }
