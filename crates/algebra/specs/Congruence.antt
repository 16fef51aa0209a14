-- Congruences of an algebra (004, SP).
use Rattle.std.specs.Prelude.{ℕ, Bool, not, ◌||◌, List, T, get_or, set}
use Rattle.equivalence.specs.Lists.{up_to, every, keep}
use Rattle.equivalence.specs.Equivalence.{Map, is_map, holds, maps}
use Rattle.algebra.specs.Algebra.{Algebra, Operation, operations, arguments, value}

-- replacing one argument of the operation by an equivalent element always gives an equivalent result
unfoldable pub respects : ℕ → Map → Operation → Bool
respects n m f =
    every (λ xs. every (λ i. every (λ y. not (holds m (get_or xs i 0) y) || holds m (value n f xs) (value n f (set xs i y))) (up_to n)) (up_to f.arity)) (arguments n f.arity)

-- m respects every operation
unfoldable pub is_congruence : Algebra → Map → Bool
is_congruence a m = every (respects a.size m) (operations a)

-- m is a map over the elements, and a congruence
pub record Congruence (a : Algebra) (m : Map) : Type 0 where
  pub map : T (is_map a.size m)
  pub respects : T (is_congruence a m)

-- every congruence of the algebra
unfoldable pub congruences : Algebra → List Map
congruences a = keep (is_congruence a) (maps a.size)
