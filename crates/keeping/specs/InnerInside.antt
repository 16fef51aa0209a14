-- An equivalence that kept pairs show to be a congruence: it lies above one, and joins the images of neighbours among listed elements.
use Rattle.std.specs.Prelude.{ℕ, ◌≤◌, ◌<◌, ◌≡◌, Bool, true, List, length, set}
use Rattle.equivalence.specs.Equivalence.{byte}
use Rattle.kernel.specs.InnerKernel.{Canonical, Within}
use Rattle.algebra.specs.Algebra.{Algebra}
use Rattle.algebra.specs.Accepted.{Accepted}
use Rattle.translation.specs.InnerTranslations.{Compatible}
use Rattle.keeping.specs.InnerKeeping.{ImagesJoined, Keeping}
use Rattle.keeping.specs.InnerPrincipal.{JoinsNames}

-- yes only where g joins every element with its name in f
pub record NamesInside (n : ℕ) (f g : ℕ → ℕ) (r : Bool) : Type 0 where
  pub says : r ≡ true → JoinsNames n f g

-- what is kept for x < y is to be compared with a map of k bytes
pub record PairAsked (a : Algebra) (x y : ℕ) (maps marks : List ℕ) (k : ℕ) : Type 0 where
  pub keeping : Keeping a maps marks
  pub accepted : Accepted a
  pub less : x < y
  pub below : y < a.size
  pub room : a.size ≤ k

-- yes only where g joins the images of x and y
pub record PairInside (a : Algebra) (x y : ℕ) (g : ℕ → ℕ) (maps marks : List ℕ) (r : Bool) : Type 0 where
  pub keeping : Keeping a maps marks
  pub says : r ≡ true → ImagesJoined a x y g

-- the same, where x is an element
pub record NextInside (a : Algebra) (x y : ℕ) (g : ℕ → ℕ) (maps marks : List ℕ) (r : Bool) : Type 0 where
  pub keeping : Keeping a maps marks
  pub says : r ≡ true → x < a.size → ImagesJoined a x y g

-- y is to be compared with the last element seen of its block of g; g has k bytes
pub record LastAsked (a : Algebra) (y k : ℕ) (g : ℕ → ℕ) (maps marks : List ℕ) (last-bytes : ℕ) : Type 0 where
  pub keeping : Keeping a maps marks
  pub accepted : Accepted a
  pub below : y < a.size
  pub room : a.size ≤ k
  pub block : g y < 64
  pub last_room : last-bytes ≡ 64

-- yes only where g joins the images of y and the last element seen of its block, if there is one; y is then the last
pub record LastInside (a : Algebra) (y : ℕ) (g : ℕ → ℕ) (last last' maps marks : List ℕ) (r : Bool) : Type 0 where
  pub next : NextInside a (byte last (g y)) y g maps marks r
  pub now_last : last' ≡ set last (g y) y

-- the first `count` of a list are elements, and f, in k bytes, is a map
pub record ListedElements (n : ℕ) (list : List ℕ) (count k : ℕ) (f : ℕ → ℕ) : Type 0 where
  pub most : count ≤ length list
  pub below : (i : ℕ) → i < count → byte list i < n
  pub room : n ≤ k
  pub canonical : Canonical n f

-- the same, for an algebra
pub record AllAsked (a : Algebra) (list : List ℕ) (count k : ℕ) (f : ℕ → ℕ) : Type 0 where
  pub accepted : Accepted a
  pub elements : ListedElements a.size list count k f

-- every block of f has one of the first `count` of a list
abbrev pub Meets : ℕ → (ℕ → ℕ) → List ℕ → ℕ → Type 0
Meets n f list count = (x : ℕ) → x < n → (i : ℕ) × ((i < count) × (f (byte list i) ≡ f x))

-- an element of g's block of y was seen, and g joins the images of y and the last one seen
pub record Chained (a : Algebra) (g : ℕ → ℕ) (last : List ℕ) (y : ℕ) : Type 0 where
  pub some : byte last (g y) < a.size
  pub images : ImagesJoined a (byte last (g y)) y g

-- so far the first i listed elements are seen; what is no element stands for none
pub record Testing (a : Algebra) (list : List ℕ) (i : ℕ) (g : ℕ → ℕ) (maps marks last : List ℕ) : Type 0 where
  pub keeping : Keeping a maps marks
  pub room : length last ≡ 64
  pub chained : (k : ℕ) → k < i → Chained a g last (byte list k)

-- yes only where g is a congruence if it lies above one that has a listed element in every block
pub record Proved (a : Algebra) (list : List ℕ) (count : ℕ) (g : ℕ → ℕ) (maps marks : List ℕ) (r : Bool) : Type 0 where
  pub keeping : Keeping a maps marks
  pub compatible : r ≡ true → (f : ℕ → ℕ) → Compatible a f → Within a.size f g → Meets a.size f list count → Compatible a g
