-- A pass over translations: when it ends, what it asks and what it leaves.
use Rattle.std.specs.Prelude.{ℕ, ◌+◌, ◌*◌, ◌≤◌, ◌<◌, ◌≡◌, Bool, true, false, ◌⊎◌, List}
use Rattle.equivalence.specs.Equivalence.{byte}
use Rattle.kernel.specs.InnerKernel.{names}
use Rattle.sweep.specs.InnerQueue.{QueueState, state_of, Ready, Grown}
use Rattle.sweep.specs.declared.Pass.{Pass}
use Rattle.sweep.specs.declared.Stop.{Stop}
use Rattle.sweep.specs.declared.queue.Merging.{Merging}

-- v and w are two, and f joins them
pub record TwoJoined (v w : ℕ) (f : ℕ → ℕ) : Type 0 where
  pub two : v ≡ w → ⊥
  pub one : f v ≡ f w

-- f has the property unless it joins v and w
abbrev pub Unless : ℕ → ℕ → ((ℕ → ℕ) → Type 0) → (ℕ → ℕ) → Type 0
Unless v w P f = (TwoJoined v w f → ⊥) → P f

-- nothing more is to be done: after `limit` merges one block is left, or v and w are joined
abbrev pub Halts : Stop → ℕ → (ℕ → ℕ) → Type 0
Halts stop len f = (stop.limit ≤ len) ⊎ TwoJoined stop.v stop.w f

-- a test that says so much where it says yes
pub record Yes (r : Bool) (P : Type 0) : Type 0 where
  pub says : r ≡ true → P

-- `other` where a test says yes, else `own`
abbrev pub chosen_of : Bool → ℕ → ℕ → ℕ
chosen_of true other own = other
chosen_of false other own = own

-- a table of refused pairs, with rows of 64, has the pair p, q
abbrev pub PairRefused : List ℕ → ℕ → ℕ → Type 0
PairRefused table p q = byte table (p * 64 + q) ≡ 0 → ⊥

-- g joins v and w where it joins a refused pair
abbrev pub RefusedRightly : ℕ → List ℕ → ℕ → ℕ → (ℕ → ℕ) → Type 0
RefusedRightly n table v w g = (p q : ℕ) → p < n → q < n → PairRefused table p q → g p ≡ g q → g v ≡ g w

-- v and w are two, and the names of a and b in f are refused, in one order or the other
pub record NamesRefused (table : List ℕ) (v w a b : ℕ) (f : ℕ → ℕ) : Type 0 where
  pub two : v ≡ w → ⊥
  pub refused : PairRefused table (f a) (f b) ⊎ PairRefused table (f b) (f a)

-- what a pass asks: the state is ready, v and w are elements, and one block is left after `limit` merges in all
pub record Sweeping (n : ℕ) (stop : Stop) (s : QueueState) : Type 0 where
  pub ready : Ready n s
  pub left : stop.v < n
  pub right : stop.w < n
  pub blocks : s.size + names n s.map ≡ stop.limit + 1

-- how far a pass has come: t is s after merges that every Good function makes too, if it joins v and w where it joins a refused pair; t's map is Done, unless it
-- joins v and w
pub record SweptTo (n : ℕ) (refused : List ℕ) (stop : Stop) (Good Done : (ℕ → ℕ) → Type 0) (s t : QueueState) : Type 0 where
  pub sweeping : Sweeping n stop t
  pub grown : Grown n (λ g. Good g × RefusedRightly n refused stop.v stop.w g) s t
  pub done : Unless stop.v stop.w Done t.map

-- what a pass leaves: t's map is Good itself, unless it joins v and w
abbrev pub Swept : ℕ → List ℕ → Stop → ((ℕ → ℕ) → Type 0) → QueueState → QueueState → Type 0
Swept n refused stop Good s t = SweptTo n refused stop Good Good s t

-- the same of a pass and of what it changes
abbrev pub SweepingIn : Pass → Merging → Type 0
SweepingIn p s = Sweeping p.n p.stop (state_of s)

abbrev pub SweptIn : Pass → ((ℕ → ℕ) → Type 0) → Merging → Merging → Type 0
SweptIn p Good s t = Swept p.n p.refused.now p.stop Good (state_of s) (state_of t)
