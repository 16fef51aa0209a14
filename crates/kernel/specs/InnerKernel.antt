-- Inner vocabulary: no contract of a service and no theorem cites this file.
-- Equivalences as kernels of functions: x and y are in one block where the function has one value at both. Inner functions promise each
-- other in these terms, since "least over every function" is stronger than "least over every map" and composes with operations.
use Rattle.std.specs.Prelude.{ℕ, zero, suc, ◌+◌, ◌≤◌, ◌<◌, ◌≡◌, Bool, true, false, List, eqb, ltb, get_or}

-- f names each block by its smallest member: at most the element, and its own name
pub record Canonical (n : ℕ) (f : ℕ → ℕ) : Type 0 where
  pub below : (x : ℕ) → x < n → f x ≤ x
  pub named : (x : ℕ) → x < n → f (f x) ≡ f x

-- what f joins, g joins
abbrev pub Within : ℕ → (ℕ → ℕ) → (ℕ → ℕ) → Type 0
Within n f g = (x y : ℕ) → x < n → y < n → f x ≡ f y → g x ≡ g y

-- from n on f' is as f
abbrev pub KeptPast : ℕ → (ℕ → ℕ) → (ℕ → ℕ) → Type 0
KeptPast n f f' = (x : ℕ) → n ≤ x → f' x ≡ f x

-- v, or `new` where v is `old`
unfoldable pub relabel : ℕ → ℕ → ℕ → ℕ
relabel old new v = elim (eqb v old) [ true ↦ new | false ↦ v ]

-- the element that was seen, or x where none was: 64 stands for none
unfoldable pub seen_or : ℕ → ℕ → ℕ
seen_or seen x = elim (ltb seen 64) [ true ↦ seen | false ↦ x ]

-- the first n values are F's, and the rest are as they were
pub record Filled (n : ℕ) (F : ℕ → ℕ) (f f' : ℕ → ℕ) : Type 0 where
  pub first : (x : ℕ) → x < n → f' x ≡ F x
  pub rest : KeptPast n f f'

-- 1 where a test holds, 0 where it does not
abbrev pub bit : Bool → ℕ
bit true = 1
bit false = 0

-- how many of 0 to n - 1 are their own names: the number of blocks of a canonical f
unfoldable pub names : ℕ → (ℕ → ℕ) → ℕ
names zero f = 0
names (suc n) f = names n f + bit (eqb (f n) n)

-- f' is the least equivalence that joins what f joins, and a and b: it has one block less
pub record Merged (n a b : ℕ) (f f' : ℕ → ℕ) : Type 0 where
  pub canonical : Canonical n f'
  pub within : Within n f f'
  pub holds : f' a ≡ f' b
  pub least : (g : ℕ → ℕ) → Within n f g → g a ≡ g b → Within n f' g
  pub blocks : names n f' + 1 ≡ names n f
  pub rest : KeptPast n f f'

-- f' is the least equivalence that joins what f joins, and a and b
pub record United (n a b : ℕ) (f f' : ℕ → ℕ) : Type 0 where
  pub canonical : Canonical n f'
  pub within : Within n f f'
  pub holds : f' a ≡ f' b
  pub least : (g : ℕ → ℕ) → Within n f g → g a ≡ g b → Within n f' g
  pub rest : KeptPast n f f'

-- f' is the least equivalence that joins what f joins, and each element below i with its name in g
pub record Joined (n i : ℕ) (g f f' : ℕ → ℕ) : Type 0 where
  pub canonical : Canonical n f'
  pub within : Within n f f'
  pub holds : (x : ℕ) → x < i → f' x ≡ f' (g x)
  pub least : (h : ℕ → ℕ) → Within n f h → ((x : ℕ) → x < i → h x ≡ h (g x)) → Within n f' h
  pub rest : KeptPast n f f'

-- c is one of the first `count` elements of a list
abbrev pub Listed : List ℕ → ℕ → ℕ → Type 0
Listed list count c = (i : ℕ) × ((i < count) × (get_or list i 0 ≡ c))
