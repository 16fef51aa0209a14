-- Certify's second and third condition together.
use Rattle.std.specs.Prelude.{ℕ, Bool, not, ◌&&◌, List, length}
use Rattle.equivalence.specs.Lists.{up_to, every, without}
use Rattle.equivalence.specs.Equivalence.{Map, is_identity, meet_all}

-- the list meets in the identity, and loses that if any one is left out
unfoldable pub irredundant : ℕ → List Map → Bool
irredundant n ms = is_identity n (meet_all n ms) && every (λ i. not (is_identity n (meet_all n (without i ms)))) (up_to (length ms))
