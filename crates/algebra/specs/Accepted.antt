-- Reasons 1 to 6, and the algebras that none of them declines.
use Rattle.std.specs.Prelude.{◌≡◌, not, List, [], ◌∷◌, eqb, leb, ltb, length, Ok}
use Rattle.equivalence.specs.Lists.{every}
use Rattle.equivalence.specs.Refusal.{Test, lowest, size_test}
use Rattle.equivalence.specs.declared.Refusal.TheVariants.{Operations, Arity, Cells, Length, Cell}
use Rattle.algebra.specs.Algebra.{Algebra, cell_count}

-- 1 to 6, by rising number
unfoldable pub algebra_tests : Algebra → List Test
algebra_tests a =
    -- 1: n is 0 or above 64
    size_test a.size
    -- 2: above 16 operations
    ∷ record { applies = ltb 16 (length a.arities); reason = Operations }
    -- 3: an arity above 3
    ∷ record { applies = not (every (λ s. leb s 3) a.arities); reason = Arity }
    -- 4: above 32,768 cells
    ∷ record { applies = ltb 32768 (cell_count a.size a.arities); reason = Cells }
    -- 5: a cell list of another length than the sum
    ∷ record { applies = not (eqb (length a.cells) (cell_count a.size a.arities)); reason = Length }
    -- 6: a cell not below n
    ∷ record { applies = not (every (λ c. ltb c a.size) a.cells); reason = Cell }
    ∷ []

-- none of reasons 1 to 6 applies
unfoldable pub Accepted : Algebra → Type 0
Accepted a = lowest (algebra_tests a) ≡ Ok tt
