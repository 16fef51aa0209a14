-- What Certify says yes to.
use Rattle.std.specs.Prelude.{Bool, not, ◌&&◌, ◌||◌, List, length}
use Rattle.equivalence.specs.Lists.{up_to, every, any, without}
use Rattle.equivalence.specs.Equivalence.{Map, is_map, holds, inside, meet_all, is_identity}
use Rattle.pairorder.specs.Order.{Pair, pairs}
use Rattle.algebra.specs.Algebra.{Algebra}
use Rattle.algebra.specs.Congruence.{is_congruence, congruences}

-- m holds the pair apart, and every strictly larger congruence joins it
unfoldable pub is_maximal_for : Algebra → Map → Pair → Bool
is_maximal_for a m p =
    not (holds m p.0 p.1) && every (λ c. not (inside a.size m c) || (inside a.size c m || holds c p.0 p.1)) (congruences a)

-- the list consists of congruences, meets in the identity, loses that if any one is left out, and each member is maximal for some pair
unfoldable pub certified : Algebra → List Map → Bool
certified a ms =
    every (λ m. is_map a.size m && is_congruence a m) ms
    && is_identity a.size (meet_all a.size ms)
    && every (λ i. not (is_identity a.size (meet_all a.size (without i ms)))) (up_to (length ms))
    && every (λ m. any (is_maximal_for a m) (pairs a.size)) ms
