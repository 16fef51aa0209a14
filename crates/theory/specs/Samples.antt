-- The algebras of document 01's examples.
use Rattle.std.specs.Prelude.{ℕ, [], ◌∷◌}
use Rattle.algebra.specs.Algebra.{Algebra, algebra_of}

-- U: n = 4, one unary operation that swaps 0 with 1 and 2 with 3
abbrev pub u : Algebra
u = algebra_of 4 (1 ∷ []) (1 ∷ 0 ∷ 3 ∷ 2 ∷ [])

-- C: n = 4, one unary operation, the cycle 0 1 2 3
abbrev pub c : Algebra
c = algebra_of 4 (1 ∷ []) (1 ∷ 2 ∷ 3 ∷ 0 ∷ [])

-- n elements without operations
abbrev pub bare : ℕ → Algebra
bare n = algebra_of n [] []

-- binary minimum on 0 1 2
abbrev pub minimum : Algebra
minimum = algebra_of 3 (2 ∷ []) (0 ∷ 0 ∷ 0 ∷ 0 ∷ 1 ∷ 1 ∷ 0 ∷ 1 ∷ 2 ∷ [])
