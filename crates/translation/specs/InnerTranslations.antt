-- Inner vocabulary: no contract of a service and no theorem cites this file.
-- Translations: the results of an operation while one argument varies and the others stay. Inner functions promise each other congruences
-- in these terms, over functions and their kernels; `is_congruence` says the same of a map (`compatible_congruence` in proofs/).
use Rattle.std.specs.Prelude.{ℕ, ◌+◌, ◌<◌, ◌≡◌, List, [], ◌∷◌, ◌++◌, length, get_or, take}
use Rattle.kernel.specs.InnerKernel.{Canonical, Within}
use Rattle.algebra.specs.Algebra.{Algebra, cell_count, place}

-- every member is below n
abbrev pub AllBelow : ℕ → List ℕ → Type 0
AllBelow n [] = Unit {0}
AllBelow n (x ∷ xs) = (x < n) × AllBelow n xs

-- where the table of operation j begins
abbrev pub table_start : Algebra → ℕ → ℕ
table_start a j = cell_count a.size (take j a.arities)

-- the value of operation j at an argument list: the cell at its place behind the tables before it
unfoldable pub result : Algebra → ℕ → List ℕ → ℕ
result a j xs = get_or a.cells (table_start a j + place a.size xs) 0

-- g joins the results of operation j wherever x stands as one argument and y in its place
abbrev pub Images : Algebra → ℕ → ℕ → ℕ → (ℕ → ℕ) → Type 0
Images a j x y g =
    (pre post : List ℕ) → length pre + 1 + length post ≡ get_or a.arities j 0 → AllBelow a.size pre → AllBelow a.size post
    → g (result a j (pre ++ (x ∷ post))) ≡ g (result a j (pre ++ (y ∷ post)))

-- the kernel of g is a congruence: replacing one argument by an equivalent element gives an equivalent result
abbrev pub Compatible : Algebra → (ℕ → ℕ) → Type 0
Compatible a g = (x y : ℕ) → x < a.size → y < a.size → g x ≡ g y → (j : ℕ) → j < length a.arities → Images a j x y g

-- f is the least congruence among those that are Good
pub record Closed (a : Algebra) (Good : (ℕ → ℕ) → Type 0) (f : ℕ → ℕ) : Type 0 where
  pub canonical : Canonical a.size f
  pub compatible : Compatible a f
  pub good : Good f
  pub least : (g : ℕ → ℕ) → Compatible a g → Good g → Within a.size f g

-- f is the greatest congruence within e
pub record Refined (a : Algebra) (e f : ℕ → ℕ) : Type 0 where
  pub canonical : Canonical a.size f
  pub compatible : Compatible a f
  pub within : Within a.size f e
  pub greatest : (g : ℕ → ℕ) → Compatible a g → Within a.size g e → Within a.size g f
