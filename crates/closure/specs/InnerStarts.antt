-- How a closure starts and what it promises.
use Rattle.std.specs.Prelude.{ℕ, zero, suc, ◌+◌, ◌*◌, ◌<◌, ◌≡◌, Bool, true, List, eqb, length}
use Rattle.equivalence.specs.Equivalence.{byte}
use Rattle.kernel.specs.InnerKernel.{Canonical, Within, KeptPast, bit, names}
use Rattle.algebra.specs.Algebra.{Algebra}
use Rattle.translation.specs.InnerTranslations.{Compatible}
use Rattle.sweep.specs.InnerSweeps.{Unless, RefusedRightly}

-- g joins the pairs of a flat list
abbrev pub JoinsPairs : List ℕ → (ℕ → ℕ) → Type 0
JoinsPairs ps g = (j : ℕ) → 2 * j + 1 < length ps → g (byte ps (2 * j)) ≡ g (byte ps (2 * j + 1))

-- g joins what f joins, and x and y
abbrev pub Extends : ℕ → (ℕ → ℕ) → ℕ → ℕ → (ℕ → ℕ) → Type 0
Extends n f x y g = Within n f g × (g x ≡ g y)

-- every congruence above f joins v and w where it joins a refused pair
abbrev pub RefusedRightlyAbove : Algebra → List ℕ → ℕ → ℕ → (ℕ → ℕ) → Type 0
RefusedRightlyAbove a table v w f = (g : ℕ → ℕ) → Compatible a g → Within a.size f g → RefusedRightly a.size table v w g

-- x is put behind the first k of a list where it is wanted
pub record Pushed (x : ℕ) (wanted : Bool) (p : ℕ → ℕ) (k : ℕ) (p' : ℕ → ℕ) (k' : ℕ) : Type 0 where
  pub count : k' ≡ k + bit wanted
  pub kept : (i : ℕ) → i < k → p' i ≡ p i
  pub new : wanted ≡ true → p' k ≡ x

-- how many of 0 to n - 1 pass a test
unfoldable pub count_of : (ℕ → Bool) → ℕ → ℕ
count_of test zero = 0
count_of test (suc n) = count_of test n + bit (test n)

-- the first k of p are those of 0 to n - 1 that pass the test
pub record Collected (test : ℕ → Bool) (n : ℕ) (p : ℕ → ℕ) (k : ℕ) : Type 0 where
  pub small : (i : ℕ) → i < k → p i < n
  pub right : (i : ℕ) → i < k → test (p i) ≡ true
  pub all : (x : ℕ) → x < n → test x ≡ true → (i : ℕ) × ((i < k) × (p i ≡ x))
  pub once : (i j : ℕ) → i < j → j < k → p i ≡ p j → ⊥
  pub count : k ≡ count_of test n

-- the first k bytes of a slice are the names of f
abbrev pub NamesListed : ℕ → (ℕ → ℕ) → List ℕ → ℕ → Type 0
NamesListed n f bytes k = Collected (λ x. eqb (f x) x) n (byte bytes) k

-- a congruence f was made to hold x and y, and the work stopped where v and w were joined; it cost r blocks
pub record Tried (a : Algebra) (x y v w : ℕ) (f f' : ℕ → ℕ) (r : ℕ) : Type 0 where
  pub canonical : Canonical a.size f'
  pub good : Extends a.size f x y f'
  pub least : (g : ℕ → ℕ) → Compatible a g → Extends a.size f x y g → Within a.size f' g
  pub compatible : Unless v w (Compatible a) f'
  pub lost : r + names a.size f' ≡ names a.size f
  pub rest : KeptPast a.size f f'
