-- What is kept for pairs of elements: maps in one slice, 64 bytes at the place of each pair, and a mark for each place in another.
use Rattle.std.specs.Prelude.{ℕ, ◌+◌, ◌*◌, ◌-◌, ◌≤◌, ◌<◌, ◌≡◌, Bool, true, false, List, length}
use Rattle.equivalence.specs.Equivalence.{byte}
use Rattle.pairorder.specs.Order.{row_start}
use Rattle.kernel.specs.InnerKernel.{Canonical, Within, names}
use Rattle.algebra.specs.Algebra.{Algebra}
use Rattle.translation.specs.InnerTranslations.{Compatible}
use Rattle.sweep.specs.InnerQueue.{QueueState, Padded, Ready}
use Rattle.sweep.specs.InnerContexts.{OperationsIn}

-- the place of the pair x < y among the pairs of 64 elements
abbrev pub pair_place : ℕ → ℕ → ℕ
pair_place x y = row_start x + y - x - 1

-- f joins the images of x and y under every translation
abbrev pub ImagesJoined : Algebra → ℕ → ℕ → (ℕ → ℕ) → Type 0
ImagesJoined a x y f = OperationsIn a (length a.arities) (λ c. c < a.size) x y f

-- k bytes, 64 of them, each of which names itself
pub record Fresh (k : ℕ) (f : ℕ → ℕ) : Type 0 where
  pub room : k ≡ 64
  pub own : (x : ℕ) → x < 64 → f x ≡ x

-- nothing is joined: the map's 64 bytes name themselves, and the queue, of 64 bytes, is empty
pub record NothingJoined (s : QueueState) : Type 0 where
  pub fresh : Fresh s.map_bytes s.map
  pub queue_room : s.queue_bytes ≡ 64
  pub none : s.size ≡ 0

-- where the pass begins: x and y are joined and nothing else
pub record PassStarted (n x y : ℕ) (s : QueueState) : Type 0 where
  pub ready : Ready n s
  pub joined : s.map x ≡ s.map y
  pub inside : (g : ℕ → ℕ) → g x ≡ g y → Within n s.map g
  pub lost : s.size + names n s.map ≡ n

-- f joins x and y and their images under every translation, and lies inside every congruence that joins x and y; past n its 64 bytes name themselves
pub record PairKept (a : Algebra) (x y : ℕ) (f : ℕ → ℕ) : Type 0 where
  pub canonical : Canonical a.size f
  pub joined : f x ≡ f y
  pub images : ImagesJoined a x y f
  pub inside : (g : ℕ → ℕ) → Compatible a g → g x ≡ g y → Within a.size f g
  pub padded : Padded a.size f

-- f is made for x and y by r merges
pub record PairMade (a : Algebra) (x y : ℕ) (f : ℕ → ℕ) (r : ℕ) : Type 0 where
  pub kept : PairKept a x y f
  pub lost : r + names a.size f ≡ a.size

-- the map at place p
abbrev pub kept_at : List ℕ → ℕ → ℕ → ℕ
kept_at maps p z = byte maps (p * 64 + z)

-- the invariant of the two slices: where the mark of a pair is not 0 its map is kept, and where it is 2 that map is a congruence
pub record Keeping (a : Algebra) (maps marks : List ℕ) : Type 0 where
  pub most : a.size ≤ 64
  pub maps_room : length maps ≡ 129024
  pub marks_room : length marks ≡ 2016
  pub kept : (x y : ℕ) → x < y → y < a.size → (byte marks (pair_place x y) ≡ 0 → ⊥) → PairKept a x y (kept_at maps (pair_place x y))
  pub whole : (x y : ℕ) → x < y → y < a.size → byte marks (pair_place x y) ≡ 2 → Compatible a (kept_at maps (pair_place x y))

-- the mark of a map, by whether it is known to be a congruence
abbrev pub mark_of : Bool → ℕ
mark_of true = 2
mark_of false = 1

-- p is a place, of the pair x, y
pub record PlaceOf (x y p : ℕ) : Type 0 where
  pub same : p ≡ pair_place x y
  pub small : p < 2016

-- m is written to place p, with the mark k, and nothing else is written
pub record Stored (p k : ℕ) (m maps marks maps' marks' : List ℕ) : Type 0 where
  pub maps_long : length maps' ≡ length maps
  pub marks_long : length marks' ≡ length marks
  pub map : (z : ℕ) → z < 64 → kept_at maps' p z ≡ byte m z
  pub mark : byte marks' p ≡ k
  pub other_maps : (q z : ℕ) → q < 2016 → (q ≡ p → ⊥) → z < 64 → kept_at maps' q z ≡ kept_at maps q z
  pub other_marks : (q : ℕ) → (q ≡ p → ⊥) → byte marks' q ≡ byte marks q

-- the pair x, y is kept at its place p; marks that were not 0 before, in `marks`, are as they were
pub record KeptHere (a : Algebra) (x y : ℕ) (marks maps' marks' : List ℕ) (p : ℕ) : Type 0 where
  pub keeping : Keeping a maps' marks'
  pub place : PlaceOf x y p
  pub some : byte marks' p ≡ 0 → ⊥
  pub older : (q : ℕ) → (byte marks q ≡ 0 → ⊥) → byte marks' q ≡ byte marks q
