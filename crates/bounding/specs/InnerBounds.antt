-- Bounds of the search: congruences that hold all that may still be found.
use Rattle.std.specs.Prelude.{ℕ, ◌+◌, ◌*◌, ◌≤◌, ◌<◌, ◌≡◌, Bool, true, false, List, length}
use Rattle.equivalence.specs.Equivalence.{byte}
use Rattle.equivalence.specs.declared.Pair.{Pair}
use Rattle.kernel.specs.InnerKernel.{Canonical, Within, KeptPast}
use Rattle.algebra.specs.Algebra.{Algebra, algebra_of}
use Rattle.algebra.specs.Accepted.{Accepted}
use Rattle.translation.specs.InnerTranslations.{Compatible}
use Rattle.bounding.specs.InnerSettled.{Settled}

-- the first k bytes of a slice are elements, and every name of f is among them
pub record NamesAmong (n : ℕ) (f : ℕ → ℕ) (bytes : List ℕ) (k : ℕ) : Type 0 where
  pub room : k ≤ length bytes
  pub few : k ≤ 64
  pub small : (i : ℕ) → i < k → byte bytes i < n
  pub all : (x : ℕ) → x < n → f x ≡ x → (i : ℕ) × ((i < k) × (byte bytes i ≡ x))

-- the rows up to x are settled in the map m over an accepted algebra, and its names are listed
pub record RowSettled (n : ℕ) (arities cells m names : List ℕ) (marked : Pair) (x count : ℕ) : Type 0 where
  pub accepted : Accepted (algebra_of n arities cells)
  pub size : n ≤ 64
  pub map_room : n ≤ length m
  pub left : marked.x < n
  pub right : marked.y < n
  pub below : x < n
  pub settled : Settled (algebra_of n arities cells) marked.x marked.y (x + 1) (x + 2) (byte m)
  pub among : NamesAmong n (byte m) names count

-- e is a congruence above f, and above every congruence above f that holds v and w apart
pub record Bound (a : Algebra) (v w : ℕ) (f e : ℕ → ℕ) : Type 0 where
  pub canonical : Canonical a.size e
  pub compatible : Compatible a e
  pub above : Within a.size f e
  pub holds : (g : ℕ → ℕ) → Compatible a g → Within a.size f g → ¬ (g v ≡ g w) → Within a.size g e

-- the first n bytes of a lent slice are a bound
pub record BoundLent (a : Algebra) (up : List ℕ) (marked : Pair) (f : ℕ → ℕ) : Type 0 where
  pub room : a.size ≤ length up
  pub bound : Bound a marked.x marked.y f (byte up)

-- a bound e was made smaller, or not: e' is one too; where the row is v's, it holds v and w apart
pub record Tightened (a : Algebra) (v w x : ℕ) (f e e' : ℕ → ℕ) : Type 0 where
  pub bound : Bound a v w f e'
  pub apart : x ≡ v → ¬ (e' v ≡ e' w)
  pub rest : KeptPast a.size e e'

-- at how many trials the next bound is due: at more than twice as many as there were, where one is made
abbrev pub next_due : Bool → ℕ → ℕ → ℕ
next_due made trials due = elim made [ true ↦ 2 * trials + 1 | false ↦ due ]
