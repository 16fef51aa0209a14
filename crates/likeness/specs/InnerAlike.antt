-- Inner vocabulary: no contract of a service and no theorem cites this file.
-- The test whether a map is a congruence: a table has a part for each first argument; each part is compared with that of its element's name, cell by
-- cell, and the parts of names are tables of the arity below.
use Rattle.std.specs.Prelude.{ℕ, zero, suc, ◌+◌, ◌*◌, ◌^◌, ◌≤◌, ◌<◌, ◌≡◌, Bool, true, List, get_or}
use Rattle.equivalence.specs.Equivalence.{byte}
use Rattle.kernel.specs.InnerKernel.{Listed}
use Rattle.refinement.specs.InnerSplitting.{Elements, MapLent}

-- the answer says whether P holds
pub record Says (r : Bool) (P : Type 0) : Type 0 where
  pub yes : r ≡ true → P
  pub no : P → r ≡ true

-- the list has the elements that are no smallest members of f
pub record Others (n : ℕ) (others : List ℕ) (left : ℕ) (f : ℕ → ℕ) : Type 0 where
  pub elements : Elements n others left
  pub all : (x : ℕ) → x < n → ¬ (f x ≡ x) → Listed others left x

-- what the walk over a table is lent: a map, cells, and the list of those that are no smallest members
pub record WalkLent (n : ℕ) (m cells others : List ℕ) (left : ℕ) : Type 0 where
  pub map : MapLent n m cells
  pub list : Others n others left (byte m)

-- two stretches of `count` cells lie within the cells
pub record Stretches (size base first count : ℕ) : Type 0 where
  pub here : base + count ≤ size
  pub there : first + count ≤ size

-- f joins each of `count` cells from `base` on with the cell as far from `first`
pub record StretchAlike (count : ℕ) (cells : List ℕ) (f : ℕ → ℕ) (base first : ℕ) : Type 0 where
  pub cell : (i : ℕ) → i < count → f (get_or cells (base + i) 0) ≡ f (get_or cells (first + i) 0)

-- so it does the part of each element with that of its name, `part` cells each, from `base` on
pub record PartsAlike (n part : ℕ) (cells : List ℕ) (f : ℕ → ℕ) (base : ℕ) : Type 0 where
  pub of : (x : ℕ) → x < n → StretchAlike part cells f (base + x * part) (base + f x * part)

-- the table of arity s that begins at `base`: the first argument may be replaced by its name, and where it is one, so may the others
abbrev pub TableAlike : ℕ → List ℕ → (ℕ → ℕ) → ℕ → ℕ → Type 0
TableAlike n cells f base zero = Unit {0}
TableAlike n cells f base (suc s) = PartsAlike n (n ^ s) cells f base × ((x : ℕ) → x < n → f x ≡ x → TableAlike n cells f (base + x * n ^ s) s)

-- the tables of arity s that begin at the parts of names
pub record NamesAlike (n part s : ℕ) (cells : List ℕ) (f : ℕ → ℕ) (base : ℕ) : Type 0 where
  pub of : (x : ℕ) → x < n → f x ≡ x → TableAlike n cells f (base + x * part) s
