-- What the computed edges are of: a small algebra, names and points over three elements.
use Prim.Native.Nat.{ℕ}
use mathlib.Core.List.{List, [], ◌∷◌}
use Rattle.algebra.specs.Algebra.{Algebra, algebra_of}
use Rattle.sheet.specs.declared.Point.{Point}

-- one unary operation on three elements that takes 0 to 1, 1 to 2 and 2 to 2
abbrev pub unary : Algebra
unary = algebra_of 3 (1 ∷ []) (1 ∷ 2 ∷ 2 ∷ [])

-- names that begin with a byte, and points with the map 0 0 2 or 0 1 1 under them
abbrev pub named : ℕ → List ℕ
named x = x ∷ 0 ∷ 0 ∷ 0 ∷ 0 ∷ 0 ∷ 0 ∷ 0 ∷ []

abbrev pub low : ℕ → Point
low x = record { name = named x; map = 0 ∷ 0 ∷ 2 ∷ [] }

abbrev pub high : ℕ → Point
high x = record { name = named x; map = 0 ∷ 1 ∷ 1 ∷ [] }

-- bytes that are no map
abbrev pub faulty : Point
faulty = record { name = named 9; map = 0 ∷ 2 ∷ 2 ∷ [] }
