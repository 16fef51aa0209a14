-- Rows of the search, joined from kept pairs: f joined with the congruences of a whole row, where that holds v and w apart.
use Rattle.std.specs.Prelude.{ℕ, ◌+◌, ◌≤◌, ◌<◌, ◌≡◌, ◌⊎◌, List, length}
use Rattle.equivalence.specs.Equivalence.{byte}
use Rattle.equivalence.specs.declared.Pair.{Pair}
use Rattle.kernel.specs.InnerKernel.{Canonical, Within}
use Rattle.algebra.specs.Algebra.{Algebra, algebra_of}
use Rattle.algebra.specs.Accepted.{Accepted}
use Rattle.translation.specs.InnerTranslations.{Compatible, Closed}
use Rattle.sweep.specs.InnerQueue.{Padded}
use Rattle.keeping.specs.InnerPrincipal.{JoinsNames, FullMap}
use Rattle.bounding.specs.InnerSettled.{Settled}

-- every congruence that joins x and y joins v and w
abbrev pub AlwaysJoins : Algebra → ℕ → ℕ → ℕ → ℕ → Type 0
AlwaysJoins a v w x y = (g : ℕ → ℕ) → Compatible a g → g x ≡ g y → g v ≡ g w

-- e is f joined with congruences of pairs of row x; where it holds v and w apart, each name of f before y is joined with x, or cannot be
pub record RowJoined (a : Algebra) (v w x y : ℕ) (f e : ℕ → ℕ) : Type 0 where
  pub canonical : Canonical a.size e
  pub compatible : Compatible a e
  pub above : Within a.size f e
  pub own : (g : ℕ → ℕ) → Compatible a g → Within a.size f g → ((z : ℕ) → x < z → z < a.size → e x ≡ e z → g x ≡ g z) → Within a.size e g
  pub tried : ¬ (e v ≡ e w) → (z : ℕ) → x < z → z < y → f z ≡ z → (e x ≡ e z) ⊎ AlwaysJoins a v w x z

-- where the search stands: the pairs before (x, y) are settled in the map m over an accepted algebra, whose bytes past n name themselves
pub record KeptStanding (n : ℕ) (arities cells m : List ℕ) (marked : Pair) (x y : ℕ) : Type 0 where
  pub accepted : Accepted (algebra_of n arities cells)
  pub size : n ≤ 64
  pub map_room : length m ≡ 64
  pub padded : Padded n (byte m)
  pub left : marked.x < n
  pub right : marked.y < n
  pub settled : Settled (algebra_of n arities cells) marked.x marked.y x y (byte m)

-- how far row x, of a name, is joined: `all` is m joined with congruences of its pairs, and those before y are tried
pub record RowLent (n : ℕ) (arities cells m all : List ℕ) (marked : Pair) (x y : ℕ) : Type 0 where
  pub standing : KeptStanding n arities cells m marked x (x + 1)
  pub below : x < n
  pub named : byte m x ≡ x
  pub full : FullMap n (length all) (byte all)
  pub joined : RowJoined (algebra_of n arities cells) marked.x marked.y x y (byte m) (byte all)

-- g', in k bytes, is the least equivalence above g that joins each element with its name in f
pub record WithKept (n k : ℕ) (f g g' : ℕ → ℕ) : Type 0 where
  pub full : FullMap n k g'
  pub within : Within n g g'
  pub joined : JoinsNames n f g'
  pub least : (h : ℕ → ℕ) → JoinsNames n f h → Within n g h → Within n g' h

-- the first n bytes of a slice are the least congruence that joins x and y
pub record Generating (a : Algebra) (x y : ℕ) (kept : List ℕ) : Type 0 where
  pub room : a.size ≤ length kept
  pub closed : Closed a (λ g. g x ≡ g y) (byte kept)
