-- Pairs settled in their order, each taken where v and w stay apart, and what that ends in: the earliest congruence that holds v and w apart.
use Rattle.std.specs.Prelude.{ℕ, ◌<◌, ◌≡◌, ◌⊎◌}
use Rattle.kernel.specs.InnerKernel.{Canonical, Within}
use Rattle.algebra.specs.Algebra.{Algebra}
use Rattle.translation.specs.InnerTranslations.{Compatible}

-- (p, q) comes before (x, y): by the first element, then by the second
abbrev pub Before : ℕ → ℕ → ℕ → ℕ → Type 0
Before p q x y = (p < x) ⊎ ((p ≡ x) × (q < y))

-- g holds every pair before (x, y) that f holds
abbrev pub KeepsBefore : ℕ → (ℕ → ℕ) → (ℕ → ℕ) → ℕ → ℕ → Type 0
KeepsBefore n f g x y = (p q : ℕ) → p < q → q < n → Before p q x y → f p ≡ f q → g p ≡ g q

-- every congruence above f that joins x and y joins v and w
abbrev pub Refused : Algebra → ℕ → ℕ → (ℕ → ℕ) → ℕ → ℕ → Type 0
Refused a v w f x y = (g : ℕ → ℕ) → Compatible a g → Within a.size f g → g x ≡ g y → g v ≡ g w

-- the pairs before (x, y) are settled: f is the least congruence that holds those it has taken, and each other, added to those taken before it, would join v and w
pub record Settled (a : Algebra) (v w x y : ℕ) (f : ℕ → ℕ) : Type 0 where
  pub canonical : Canonical a.size f
  pub compatible : Compatible a f
  pub apart : ¬ (f v ≡ f w)
  pub own : (g : ℕ → ℕ) → Compatible a g → KeepsBefore a.size f g x y → Within a.size f g
  pub refused : (p q : ℕ) → p < q → q < a.size → Before p q x y → ¬ (f p ≡ f q)
      → (g : ℕ → ℕ) → Compatible a g → KeepsBefore a.size f g p q → g p ≡ g q → g v ≡ g w

-- f is the earliest congruence that holds v and w apart: where another such congruence agrees with f on all pairs before one that it holds, f holds that pair
pub record Earliest (a : Algebra) (v w : ℕ) (f : ℕ → ℕ) : Type 0 where
  pub canonical : Canonical a.size f
  pub compatible : Compatible a f
  pub apart : ¬ (f v ≡ f w)
  pub first : (g : ℕ → ℕ) → Compatible a g → ¬ (g v ≡ g w) → (x y : ℕ) → x < y → y < a.size
      → KeepsBefore a.size f g x y → KeepsBefore a.size g f x y → g x ≡ g y → f x ≡ f y
