-- Where the closure of a map begins: a congruence, and the names that the map took away from it, all queued.
use Rattle.std.specs.Prelude.{ℕ, ◌+◌, ◌≤◌, ◌<◌, ◌≡◌, ◌⊎◌, Bool, true, false, List, length}
use Rattle.equivalence.specs.Equivalence.{byte}
use Rattle.kernel.specs.InnerKernel.{Canonical, Within, KeptPast, Listed, names}
use Rattle.algebra.specs.Algebra.{Algebra}
use Rattle.translation.specs.InnerTranslations.{Compatible, Closed}
use Rattle.sweep.specs.InnerQueue.{QueueState, InQueue}
use Rattle.closure.specs.declared.Congruence.{Congruence}
use Rattle.closure.specs.InnerStarts.{Extends, NamesListed}

-- the first `count` elements of a list are elements, all different: `places` has where each stands
pub record InUse (n : ℕ) (live places : List ℕ) (count : ℕ) : Type 0 where
  pub most : n ≤ 64
  pub live_room : length live ≡ 64
  pub places_room : length places ≡ 64
  pub few : count ≤ 64
  pub below : (i : ℕ) → i < count → byte live i < n
  pub placed : (i : ℕ) → i < count → byte places (byte live i) ≡ i

-- the elements in use are the names of f
pub record NamesInUse (n : ℕ) (f : ℕ → ℕ) (live places : List ℕ) (count : ℕ) : Type 0 where
  pub in_use : InUse n live places count
  pub listed : NamesListed n f live count

-- the map lies above a congruence, `base`; its names are listed, and those that the map took away are queued
pub record Begun (a : Algebra) (s : QueueState) (live : List ℕ) (count : ℕ) : Type 0 where
  pub base : ℕ → ℕ
  pub canonical : Canonical a.size base
  pub compatible : Compatible a base
  pub within : Within a.size base s.map
  pub lost : (x : ℕ) → x < a.size → base x ≡ x → (s.map x ≡ x) ⊎ InQueue s x
  pub listed : (x : ℕ) → x < a.size → base x ≡ x → Listed live count x
  pub own : (x : ℕ) → Listed live count x → base x ≡ x
  pub queued : (i : ℕ) → i < s.size → base (s.queue i) ≡ s.queue i
  pub number : count ≡ s.size + names a.size s.map

-- b is taken out of the elements in use, and nothing else
pub record Retired (n b : ℕ) (live : List ℕ) (count : ℕ) (live' places' : List ℕ) (count' : ℕ) : Type 0 where
  pub fewer : count' + 1 ≡ count
  pub in_use : InUse n live' places' count'
  pub kept : (c : ℕ) → Listed live count c → (c ≡ b → ⊥) → Listed live' count' c
  pub old : (c : ℕ) → Listed live' count' c → Listed live count c
  pub gone : Listed live' count' b → ⊥

-- c is the closure of f with x and y joined; it holds v and w apart, and its names are in use
pub record ApartMade (a : Algebra) (x y v w : ℕ) (f : ℕ → ℕ) (c : Congruence) : Type 0 where
  pub closed : Closed a (Extends a.size f x y) (byte c.map)
  pub apart : byte c.map v ≡ byte c.map w → ⊥
  pub left : NamesInUse a.size (byte c.map) c.names.list c.names.places c.names.count
  pub rest : KeptPast a.size f (byte c.map)

-- what a try leaves of a congruence that must hold v and w apart: that closure, in 64 bytes; or the congruence itself, where whatever is compatible and large enough joins v and w
abbrev pub ApartIn : Algebra → ℕ → ℕ → ℕ → ℕ → Congruence → Congruence → Bool → Type 0
ApartIn a x y v w c d true = (length d.map ≡ 64) × ApartMade a x y v w (byte c.map) d
ApartIn a x y v w c d false = (d ≡ c) × ((g : ℕ → ℕ) → Compatible a g → Extends a.size (byte c.map) x y g → g v ≡ g w)
