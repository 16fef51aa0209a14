-- The least, the greatest and the earliest congruence: what Generate, Contained and Separate give.
use Rattle.std.specs.Prelude.{ℕ, Bool, true, not, ◌&&◌, List, [], ◌∷◌}
use Rattle.equivalence.specs.Lists.{keep}
use Rattle.equivalence.specs.Equivalence.{Map, holds, inside, identity, best}
use Rattle.pairorder.specs.Order.{not_later}
use Rattle.algebra.specs.Algebra.{Algebra}
use Rattle.algebra.specs.Congruence.{congruences}

-- m holds every pair of a flat list
unfoldable pub holds_all : List ℕ → Map → Bool
holds_all [] m = true
holds_all (x ∷ []) m = true
holds_all (x ∷ y ∷ rest) m = holds m x y && holds_all rest m

-- the least congruence that holds what m holds, and every pair of a flat list
unfoldable pub above : Algebra → Map → List ℕ → Map
above a m ps = best (inside a.size) (keep (λ c. inside a.size m c && holds_all ps c) (congruences a))

-- the least congruence that holds the pairs of a flat list
unfoldable pub generated : Algebra → List ℕ → Map
generated a ps = above a (identity a.size) ps

-- the least congruence that holds what m holds, and the pair v, w
unfoldable pub extended : Algebra → Map → ℕ → ℕ → Map
extended a m v w = above a m (v ∷ w ∷ [])

-- the greatest congruence inside e
unfoldable pub contained : Algebra → Map → Map
contained a e = best (λ c d. inside a.size d c) (keep (λ c. inside a.size c e) (congruences a))

-- the earliest congruence that holds v and w apart
unfoldable pub separated : Algebra → ℕ → ℕ → Map
separated a v w = best (not_later a.size) (keep (λ c. not (holds c v w)) (congruences a))
