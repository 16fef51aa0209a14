-- What Decompose finds of an algebra, and what it leaves in the lent list.
use Rattle.std.specs.Prelude.{ℕ, ◌*◌, true, false, List, ltb, length, Result, Ok, Err}
use Rattle.equivalence.specs.Equivalence.{Map}
use Rattle.equivalence.specs.Lists.{concat}
use Rattle.equivalence.specs.Lent.{written}
use Rattle.pairorder.specs.Order.{Pair}
use Rattle.algebra.specs.Algebra.{Algebra}
use Rattle.theory.specs.Decompose.{listed, reducible, common_pair}
use Rattle.equivalence.specs.declared.Refusal.{Refusal}
use Rattle.equivalence.specs.declared.Refusal.TheVariants.{Space}
use Rattle.decomposition.specs.declared.Decomposed.{Decomposed}
use Rattle.decomposition.specs.declared.Decomposed.TheVariants.{Factors, Irreducible}

-- the maps over n elements with their count, one after the other at the start of the lent bytes; or nothing, where fewer bytes are lent
unfoldable pub listed_in : ℕ → List Map → List ℕ → Result Decomposed Refusal × List ℕ
listed_in n ms lent = elim (ltb (length lent) (length ms * n)) [ true ↦ (Err Space, lent) | false ↦ (Ok (Factors (length ms)), written (concat ms) lent) ]

-- that an algebra is irreducible, with a pair as elements
unfoldable pub irreducible_with : Pair → Decomposed
irreducible_with p = Irreducible (record { 0 = p.0 }) (record { 0 = p.1 })

-- what is found of an algebra, and the lent bytes afterwards: the factors, if there is room for them; or the pair
unfoldable pub found_in : Algebra → List ℕ → Result Decomposed Refusal × List ℕ
found_in a lent = elim (reducible a) [ true ↦ listed_in a.size (listed a) lent | false ↦ (Ok (irreducible_with (common_pair a)), lent) ]
