-- What the functions promise that write the equivalence with two blocks.
use Rattle.std.specs.Prelude.{ℕ, ◌≤◌, ◌<◌, ◌≡◌, true, false, eqb}

-- q is the first of 0 to n - 1 at which f is not r, or n where there is none
pub record FirstOther (n r : ℕ) (f : ℕ → ℕ) (q : ℕ) : Type 0 where
  pub most : q ≤ n
  pub before : (x : ℕ) → x < q → f x ≡ r
  pub other : q < n → ¬ (f q ≡ r)

-- r where b is r, and q where it is not
abbrev pub one_of : ℕ → ℕ → ℕ → ℕ
one_of r q b = elim (eqb b r) [ true ↦ r | false ↦ q ]

-- e has two blocks: the block of v in f, and the rest
pub record TwoBlocks (n v : ℕ) (f e : ℕ → ℕ) : Type 0 where
  pub same : (x y : ℕ) → x < n → y < n → f x ≡ f v → f y ≡ f v → e x ≡ e y
  pub rest : (x y : ℕ) → x < n → y < n → ¬ (f x ≡ f v) → ¬ (f y ≡ f v) → e x ≡ e y
  pub apart : (x y : ℕ) → x < n → y < n → f x ≡ f v → ¬ (f y ≡ f v) → ¬ (e x ≡ e y)
