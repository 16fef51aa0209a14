-- What `extended_into` promises of a map that is extended by a pair, in place.
use Rattle.std.specs.Prelude.{ℕ, ◌+◌, List, ◌≡◌, take}
use Rattle.equivalence.specs.Equivalence.{blocks}
use Rattle.equivalence.specs.Lent.{written}
use Rattle.algebra.specs.Algebra.{Algebra}
use Rattle.theory.specs.Extremal.{extended}

-- the first bytes of `old`, a map, became the least congruence that holds it and the pair; the blocks lost and those left make the blocks there were
pub record MapExtended (a : Algebra) (x y : ℕ) (old new : List ℕ) (lost : ℕ) : Type 0 where
  pub bytes : new ≡ written (extended a (take a.size old) x y) old
  pub cost : lost + blocks a.size (extended a (take a.size old) x y) ≡ blocks a.size (take a.size old)
