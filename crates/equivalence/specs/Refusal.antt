-- The reasons to decline, their numbers, and the lowest that applies.
use Rattle.std.specs.Prelude.{ℕ, ◌%◌, Bool, true, false, not, ◌||◌, List, [], ◌∷◌, eqb, ltb, length, ⊤, Result, Ok, Err}
use Rattle.equivalence.specs.Equivalence.{Map, is_map}
use Rattle.equivalence.specs.Lists.{every}
use Rattle.equivalence.specs.Lent.{lent_after}
use Rattle.equivalence.specs.declared.Refusal.{Refusal}
use Rattle.equivalence.specs.declared.Refusal.TheVariants.{Size, Operations, Arity, Cells, Length, Cell, Range, NotMap, Space, Equal, NotCongruence, Tally, Text, UnknownName, PointsFull}

-- the number in the table of reasons; 11 is `Decomposed`'s case `Irreducible`
unfoldable pub number_of : Refusal → ℕ
number_of Size = 1
number_of Operations = 2
number_of Arity = 3
number_of Cells = 4
number_of Length = 5
number_of Cell = 6
number_of Range = 7
number_of NotMap = 8
number_of Space = 9
number_of Equal = 10
number_of NotCongruence = 12
number_of Tally = 13
number_of Text = 14
number_of UnknownName = 15
number_of PointsFull = 16

-- a reason, and whether it applies
pub record Test : Type 0 where
  pub applies : Bool
  pub reason : Refusal

-- the first reason that applies; where the tests rise by rank (`rises` in Ranks.antt) it is the lowest
unfoldable pub lowest : List Test → Result ⊤ Refusal
lowest [] = Ok tt
lowest (t ∷ rest) = elim t.applies [ true ↦ Err t.reason | false ↦ lowest rest ]

-- 1: n is 0 or above 64
unfoldable pub size_test : ℕ → Test
size_test n = record { applies = eqb n 0 || ltb 64 n; reason = Size }

-- 7: an odd list of pairs, or an element not below n
unfoldable pub pairs_test : ℕ → List ℕ → Test
pairs_test n ps = record { applies = not (eqb (length ps % 2) 0) || not (every (λ x. ltb x n) ps); reason = Range }

-- 7: v or w is not below n
unfoldable pub elements_test : ℕ → ℕ → ℕ → Test
elements_test n v w = record { applies = not (ltb v n) || not (ltb w n); reason = Range }

-- 8: not a map over n
unfoldable pub map_test : ℕ → Map → Test
map_test n m = record { applies = not (is_map n m); reason = NotMap }

-- 9: fewer bytes are lent than wanted
unfoldable pub space_test : ℕ → ℕ → Test
space_test wanted lent = record { applies = ltb lent wanted; reason = Space }

-- 10: v and w are equal
unfoldable pub equal_test : ℕ → ℕ → Test
equal_test v w = record { applies = eqb v w; reason = Equal }

-- Prefer's tests
unfoldable pub prefer_check : ℕ → Map → Map → Result ⊤ Refusal
prefer_check n a b = lowest (size_test n ∷ map_test n a ∷ map_test n b ∷ [])

-- what a call answers: the answer where the tests pass, else the refusal
unfoldable pub answered {ℓ} : {A : Type ℓ} → (Refusal → A) → Result ⊤ Refusal → A → A
answered refused (Ok x) answer = answer
answered refused (Err r) answer = refused r

-- a call that writes: the answer and the lent bytes afterwards, by its tests
unfoldable pub serve : {A : Type 0} → List Test → A → List ℕ → List ℕ → Result A Refusal × List ℕ
serve tests answer new lent = (answered Err (lowest tests) (Ok answer), lent_after (lowest tests) new lent)
