-- From kept pairs to the least congruence that joins two elements.
use Rattle.std.specs.Prelude.{ℕ, ◌+◌, ◌-◌, ◌≤◌, ◌<◌, ◌≡◌, ◌⊎◌, List, length}
use Rattle.equivalence.specs.Equivalence.{byte}
use Rattle.kernel.specs.InnerKernel.{Canonical, Within, names}
use Rattle.algebra.specs.Algebra.{Algebra}
use Rattle.algebra.specs.Accepted.{Accepted}
use Rattle.translation.specs.InnerTranslations.{Compatible}
use Rattle.sweep.specs.InnerQueue.{QueueState, InQueue, Padded, Ready, Grown}
use Rattle.keeping.specs.InnerKeeping.{ImagesJoined, PairKept, kept_at, Keeping, PlaceOf}

-- g joins each element below i with its name in f
pub record JoinsNames (i : ℕ) (f g : ℕ → ℕ) : Type 0 where
  pub each : (z : ℕ) → z < i → g z ≡ g (f z)

-- how far f is joined: t is s after merges that every function makes that joins all elements with their names in f, and t's map joins those below i
pub record JoinedTo (n i : ℕ) (f : ℕ → ℕ) (s t : QueueState) : Type 0 where
  pub grown : Grown n (JoinsNames n f) s t
  pub joined : JoinsNames i f t.map

-- f joins b with a smaller element, and their images
pub record Linked (a : Algebra) (b : ℕ) (f : ℕ → ℕ) : Type 0 where
  pub smaller : ℕ
  pub less : smaller < b
  pub joined : f smaller ≡ f b
  pub images : ImagesJoined a smaller b f

-- f' joins what f joins, and lies inside every congruence that does
pub record Raised (a : Algebra) (f f' : ℕ → ℕ) : Type 0 where
  pub canonical : Canonical a.size f'
  pub within : Within a.size f f'
  pub inside : (g : ℕ → ℕ) → Compatible a g → Within a.size f g → Within a.size f' g
  pub padded : Padded a.size f'

-- how far f is closed: every element that is no name is queued or linked
pub record Closing (a : Algebra) (f : ℕ → ℕ) (s : QueueState) : Type 0 where
  pub ready : Ready a.size s
  pub raised : Raised a f s.map
  pub linked : (b : ℕ) → b < a.size → (s.map b ≡ b → ⊥) → InQueue s b ⊎ Linked a b s.map

-- f, in k bytes, is a map of 64: canonical, and past n its bytes name themselves
pub record FullMap (n k : ℕ) (f : ℕ → ℕ) : Type 0 where
  pub most : n ≤ 64
  pub room : k ≡ 64
  pub canonical : Canonical n f
  pub padded : Padded n f

-- g, in k bytes, is a congruence that lies inside f: what g joins, f joins with all its images
pub record Sure (a : Algebra) (k : ℕ) (g f : ℕ → ℕ) : Type 0 where
  pub map : FullMap a.size k g
  pub compatible : Compatible a g
  pub within : Within a.size g f

-- g', in k bytes, is g, joined with f where f's mark is 2
pub record Trusted (n mark k : ℕ) (f g g' : ℕ → ℕ) : Type 0 where
  pub map : FullMap n k g'
  pub within : Within n g g'
  pub least : (h : ℕ → ℕ) → JoinsNames n f h → Within n g h → Within n g' h
  pub whole : mark ≡ 2 → JoinsNames n f g'
  pub same : (mark ≡ 2 → ⊥) → Within n g' g

-- the state without the last element of its queue
abbrev pub popped : QueueState → QueueState
popped s = record { map = s.map; map_bytes = s.map_bytes; queue = s.queue; queue_bytes = s.queue_bytes; size = s.size - 1 }

-- what is kept for x < y is to be joined with the map of a state and with g, in k bytes
pub record Taking (a : Algebra) (x y : ℕ) (maps marks : List ℕ) (s : QueueState) (k : ℕ) (g : ℕ → ℕ) : Type 0 where
  pub keeping : Keeping a maps marks
  pub accepted : Accepted a
  pub ready : Ready a.size s
  pub map : FullMap a.size k g
  pub less : x < y
  pub below : y < a.size

-- it was: the map kept for x and y, its mark, and what is kept then
pub record Taken (a : Algebra) (x y : ℕ) (s t : QueueState) (g : ℕ → ℕ) (k : ℕ) (g' : ℕ → ℕ) (maps marks : List ℕ) : Type 0 where
  pub keeping : Keeping a maps marks
  pub kept : ℕ → ℕ
  pub mark : ℕ
  pub pair : PairKept a x y kept
  pub whole : mark ≡ 2 → Compatible a kept
  pub trusted : Trusted a.size mark k kept g g'
  pub joined : JoinedTo a.size a.size kept s t

-- the last element of the queue is to be taken: it and its name are a pair; g, in k bytes, is sure
pub record Absorbing (a : Algebra) (maps marks : List ℕ) (s : QueueState) (k : ℕ) (g : ℕ → ℕ) : Type 0 where
  pub keeping : Keeping a maps marks
  pub accepted : Accepted a
  pub ready : Ready a.size s
  pub some : 0 < s.size
  pub sure : Sure a k g s.map
  pub last : s.queue (s.size - 1) < a.size
  pub less : s.map (s.queue (s.size - 1)) < s.queue (s.size - 1)

-- it was taken: whatever was being closed is closed further, and g, in k bytes, is sure
pub record Absorbed (a : Algebra) (s t : QueueState) (maps marks : List ℕ) (k : ℕ) (g : ℕ → ℕ) : Type 0 where
  pub keeping : Keeping a maps marks
  pub closing : (f : ℕ → ℕ) → Closing a f s → Closing a f t
  pub less : t.size + names a.size t.map < s.size + names a.size s.map
  pub sure : Sure a k g t.map

-- while the queue is taken: f is being closed, and g, in k bytes, is sure
pub record Working (a : Algebra) (f : ℕ → ℕ) (maps marks : List ℕ) (s : QueueState) (k : ℕ) (g : ℕ → ℕ) : Type 0 where
  pub keeping : Keeping a maps marks
  pub accepted : Accepted a
  pub closing : Closing a f s
  pub sure : Sure a k g s.map

-- f was raised to f' until no element was queued, or v and w were joined; r are queued still
pub record ClosedUnless (a : Algebra) (v w : ℕ) (f f' : ℕ → ℕ) (r : ℕ) : Type 0 where
  pub raised : Raised a f f'
  pub whole : r ≡ 0 → Compatible a f'
  pub stopped : 0 < r → f' v ≡ f' w

-- that, in as many bytes as before, and what is kept then
pub record Worked (a : Algebra) (v w : ℕ) (f : ℕ → ℕ) (maps marks : List ℕ) (map_bytes : ℕ) (f' : ℕ → ℕ) (r sure-bytes : ℕ) : Type 0 where
  pub keeping : Keeping a maps marks
  pub map_room : map_bytes ≡ 64
  pub sure_room : sure-bytes ≡ 64
  pub closed : ClosedUnless a v w f f' r

-- what it takes to make up a kept map with its queue
pub record Rebuilding (n p : ℕ) (maps : List ℕ) : Type 0 where
  pub most : n ≤ 64
  pub small : p < 2016
  pub maps_room : length maps ≡ 129024
  pub canonical : Canonical n (kept_at maps p)

-- the map joins what f joins and nothing else; whatever is no name in it is queued
pub record Rebuilt (n : ℕ) (f : ℕ → ℕ) (s : QueueState) : Type 0 where
  pub ready : Ready n s
  pub above : Within n f s.map
  pub inside : Within n s.map f
  pub queued : (b : ℕ) → b < n → (s.map b ≡ b → ⊥) → InQueue s b

-- the map at the place p of the pair x, y is to be grown until it is a congruence or joins v and w
pub record Growing (a : Algebra) (x y p v w : ℕ) (maps marks : List ℕ) : Type 0 where
  pub keeping : Keeping a maps marks
  pub accepted : Accepted a
  pub less : x < y
  pub below : y < a.size
  pub place : PlaceOf x y p
  pub pair : PairKept a x y (kept_at maps p)
  pub left : v < a.size
  pub right : w < a.size

-- f, in k bytes, is kept for x and y; it is a congruence where r is 0, and else joins v and w
pub record PairGrown (a : Algebra) (x y v w : ℕ) (maps marks : List ℕ) (k : ℕ) (f : ℕ → ℕ) (r : ℕ) : Type 0 where
  pub keeping : Keeping a maps marks
  pub map_room : k ≡ 64
  pub pair : PairKept a x y f
  pub whole : r ≡ 0 → Compatible a f
  pub stopped : 0 < r → f v ≡ f w

-- at the place p of the pair x, y a map is kept that is marked 2, so the least congruence that joins x and y, or that joins v and w
pub record PrincipalHere (a : Algebra) (x y v w : ℕ) (maps marks : List ℕ) (p : ℕ) : Type 0 where
  pub keeping : Keeping a maps marks
  pub place : PlaceOf x y p
  pub pair : PairKept a x y (kept_at maps p)
  pub closed : (byte marks p ≡ 2) ⊎ (kept_at maps p v ≡ kept_at maps p w)
