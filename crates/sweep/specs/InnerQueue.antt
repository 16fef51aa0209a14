-- A map that grows by merges, and the queue of the names that the merges took away.
use Rattle.std.specs.Prelude.{ℕ, ◌+◌, ◌≤◌, ◌<◌, ◌≡◌, ◌⊎◌, List, length}
use Rattle.equivalence.specs.Equivalence.{byte}
use Rattle.kernel.specs.InnerKernel.{Canonical, Within, KeptPast, names}
use Rattle.sweep.specs.declared.queue.Merging.{Merging}

-- the map and the queue, how many bytes each has, and how many elements are queued
pub record QueueState : Type 0 where
  pub map : ℕ → ℕ
  pub map_bytes : ℕ
  pub queue : ℕ → ℕ
  pub queue_bytes : ℕ
  pub size : ℕ

-- the state that two slices and a count hold
abbrev pub state : List ℕ → List ℕ → ℕ → QueueState
state m q k = record { map = byte m; map_bytes = length m; queue = byte q; queue_bytes = length q; size = k }

-- the state that they hold
abbrev pub state_of : Merging → QueueState
state_of s = state s.map s.queue s.len

-- x is queued
abbrev pub InQueue : QueueState → ℕ → Type 0
InQueue s x = (k : ℕ) × ((k < s.size) × (s.queue k ≡ x))

-- the map is canonical, what is queued is no name in it, and nothing is queued twice
pub record Queued (n : ℕ) (s : QueueState) : Type 0 where
  pub canonical : Canonical n s.map
  pub small : (k : ℕ) → k < s.size → s.queue k < n
  pub lost : (k : ℕ) → k < s.size → s.map (s.queue k) ≡ s.queue k → ⊥
  pub once : (i k : ℕ) → i < k → k < s.size → s.queue i ≡ s.queue k → ⊥

-- the bytes past n, of 64, name themselves
abbrev pub Padded : ℕ → (ℕ → ℕ) → Type 0
Padded n f = (x : ℕ) → n ≤ x → x < 64 → f x ≡ x

-- what every function over a state asks: 64 bytes for the map and for the queue, and room in the queue for every name that is left
pub record Ready (n : ℕ) (s : QueueState) : Type 0 where
  pub most : n ≤ 64
  pub map_room : s.map_bytes ≡ 64
  pub queue_room : s.queue_bytes ≡ 64
  pub padded : Padded n s.map
  pub room : s.size + names n s.map ≤ n
  pub queued : Queued n s

-- t is s after merges that every Good function makes too; each took one name away and queued it
pub record Grown (n : ℕ) (Good : (ℕ → ℕ) → Type 0) (s t : QueueState) : Type 0 where
  pub ready : Ready n t
  pub within : Within n s.map t.map
  pub blocks : t.size + names n t.map ≡ s.size + names n s.map
  pub longer : s.size ≤ t.size
  pub kept : (k : ℕ) → k < s.size → t.queue k ≡ s.queue k
  pub pushed : (x : ℕ) → x < n → s.map x ≡ x → (t.map x ≡ x) ⊎ InQueue t x
  pub older : (x : ℕ) → x < n → t.map x ≡ x → s.map x ≡ x
  pub taken : (k : ℕ) → s.size ≤ k → k < t.size → s.map (t.queue k) ≡ t.queue k
  pub sound : (g : ℕ → ℕ) → Good g → Within n s.map g → Within n t.map g
  pub rest : KeptPast n s.map t.map
