-- Decompose, by document 01's steps.
use Rattle.std.specs.Prelude.{ℕ, zero, suc, ◌-◌, ◌*◌, Bool, true, false, not, List, [], ◌∷◌, ◌++◌, length}
use Rattle.equivalence.specs.Lists.{every, keep}
use Rattle.equivalence.specs.Equivalence.{Map, meet, meet_all, whole, is_identity}
use Rattle.pairorder.specs.Order.{Pair, first_held}
use Rattle.algebra.specs.Algebra.{Algebra}
use Rattle.algebra.specs.Congruence.{congruences}
use Rattle.theory.specs.Extremal.{separated}

-- Separate's congruence for the first pair still joined by d
unfoldable pub added : Algebra → Map → Map
added a d = let p = first_held a.size d in separated a p.0 p.1

-- while the meet d so far is not the identity, add a congruence and meet; n steps are enough
unfoldable pub gathered : ℕ → Algebra → Map → List Map
gathered zero a d = []
gathered (suc k) a d =
    elim (is_identity a.size d) [ true ↦ [] | false ↦ added a d ∷ gathered k a (meet a.size d (added a d)) ]

-- from first to last, each is dropped without which the rest, as the list then stands, still meet in the identity
unfoldable pub pruned : ℕ → List Map → List Map → List Map
pruned n kept [] = kept
pruned n kept (m ∷ rest) =
    elim (is_identity n (meet_all n (kept ++ rest))) [ true ↦ pruned n kept rest | false ↦ pruned n (kept ++ (m ∷ [])) rest ]

-- the list that is left: begin with *all*, gather, then drop
unfoldable pub listed : Algebra → List Map
listed a = pruned a.size [] (gathered a.size a (whole a.size))

-- something other than the identity is left
unfoldable pub reducible : Algebra → Bool
reducible a = not (every (is_identity a.size) (listed a))

-- what Decompose wants of space: n bytes for each factor, and nothing for an irreducible algebra
unfoldable pub factor_space : Algebra → ℕ
factor_space a = elim (reducible a) [ true ↦ length (listed a) * a.size | false ↦ 0 ]

-- space for the factors of every algebra over n elements: n - 1 maps
abbrev pub most_factor_space : ℕ → ℕ
most_factor_space n = (n - 1) * n

-- the first pair common to all congruences but the identity; (0, 0) for n = 1
unfoldable pub common_pair : Algebra → Pair
common_pair a = first_held a.size (meet_all a.size (keep (λ c. not (is_identity a.size c)) (congruences a)))
