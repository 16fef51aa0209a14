-- Which cells a pass compares: the varied argument is x in one and y in the other, the others are elements still in use, its contexts.
use Rattle.std.specs.Prelude.{ℕ, zero, suc, ◌+◌, ◌*◌, ◌^◌, ◌≤◌, ◌<◌, Bool, true, false, ◌≡◌, List, [], ◌∷◌, ◌++◌, length, get_or}
use Rattle.equivalence.specs.Equivalence.{byte}
use Rattle.algebra.specs.Algebra.{Algebra}
use Rattle.translation.specs.InnerLines.{line_at, LineInside}
use Rattle.translation.specs.InnerTranslations.{result}
use Rattle.sweep.specs.declared.Pass.{Pass}
use Rattle.sweep.specs.declared.LinePair.{LinePair}
use Rattle.sweep.specs.declared.ImagePair.{ImagePair}

-- every member is in L
abbrev pub All : (ℕ → Type 0) → List ℕ → Type 0
All L [] = Unit {0}
All L (x ∷ xs) = L x × All L xs

-- g joins the results of operation j wherever x stands as one argument and y in its place, the other arguments being in L
abbrev pub ImagesIn : Algebra → ℕ → (ℕ → Type 0) → ℕ → ℕ → (ℕ → ℕ) → Type 0
ImagesIn a j L x y g =
    (pre post : List ℕ) → length pre + 1 + length post ≡ get_or a.arities j 0 → All L pre → All L post
    → g (result a j (pre ++ (x ∷ post))) ≡ g (result a j (pre ++ (y ∷ post)))

-- the same for the first k operations
pub record OperationsIn (a : Algebra) (k : ℕ) (L : ℕ → Type 0) (x y : ℕ) (g : ℕ → ℕ) : Type 0 where
  pub each : (j : ℕ) → j < k → ImagesIn a j L x y g

-- ---- lines

-- g joins the two lines' cells at c
pub record JoinsAt (cells : List ℕ) (lines : LinePair) (c : ℕ) (g : ℕ → ℕ) : Type 0 where
  pub joined : g (line_at cells lines.p lines.stride c) ≡ g (line_at cells lines.q lines.stride c)

-- g joins them at each of the first k listed elements
pub record JoinsLine (cells live : List ℕ) (k : ℕ) (lines : LinePair) (g : ℕ → ℕ) : Type 0 where
  pub each : (i : ℕ) → i < k → JoinsAt cells lines (byte live i) g

-- both lines lie within the cells
pub record LinesInside (n : ℕ) (cells : List ℕ) (lines : LinePair) : Type 0 where
  pub left : LineInside n cells lines.p lines.stride
  pub right : LineInside n cells lines.q lines.stride

-- from index i on, up to r, f joins the cells of two lines
pub record Passed (cells live : List ℕ) (count : ℕ) (lines : LinePair) (i r : ℕ) (f : ℕ → ℕ) : Type 0 where
  pub after : i ≤ r
  pub most : r ≤ count
  pub joined : (k : ℕ) → i ≤ k → k < r → JoinsAt cells lines (byte live k) f

-- ---- two pairs of lines at once

-- g joins the cells at c on both
pub record JoinsBoth (cells : List ℕ) (last first : LinePair) (c : ℕ) (g : ℕ → ℕ) : Type 0 where
  pub last_at : JoinsAt cells last c g
  pub first_at : JoinsAt cells first c g

-- g joins them at each of the first k listed elements
pub record JoinsCross (cells live : List ℕ) (k : ℕ) (last first : LinePair) (g : ℕ → ℕ) : Type 0 where
  pub last_line : JoinsLine cells live k last g
  pub first_line : JoinsLine cells live k first g

-- from index i on, up to r, f joins the cells of both
pub record PassedBoth (cells live : List ℕ) (count : ℕ) (last first : LinePair) (i r : ℕ) (f : ℕ → ℕ) : Type 0 where
  pub last_passed : Passed cells live count last i r f
  pub first_passed : Passed cells live count first i r f

-- ---- tables

-- the lines of a table on which the compared argument counts `scale`
abbrev pub lines_of : ImagePair → ℕ → ℕ → LinePair
lines_of images scale stride = record { p = images.o + images.x * scale; q = images.o + images.y * scale; stride = stride }

-- the same elements in a table that begins `shift` cells later
abbrev pub shifted : ImagePair → ℕ → ImagePair
shifted images shift = record { o = images.o + shift; x = images.x; y = images.y }

-- the lines that a row compares: with c before both arguments of a plane, the last and the middle one varied; and with c behind the first one, varied
abbrev pub last_of : ℕ → ImagePair → ℕ → LinePair
last_of n images c = lines_of (shifted images (c * (n * n))) 1 n

abbrev pub middle_of : ℕ → ImagePair → ℕ → LinePair
middle_of n images c = lines_of (shifted images (c * (n * n))) n 1

abbrev pub first_of : ℕ → ImagePair → ℕ → LinePair
first_of n images c = lines_of (shifted images (c * n)) (n * n) 1

-- g joins the cells of row c of a table: of a binary one, which is its row 0, or of a deep one, that is, a ternary one
pub record JoinsRow (n : ℕ) (cells live : List ℕ) (count : ℕ) (deep : Bool) (images : ImagePair) (c : ℕ) (g : ℕ → ℕ) : Type 0 where
  pub plane : JoinsCross cells live count (last_of n images c) (middle_of n images c) g
  pub across : deep ≡ true → JoinsLine cells live count (first_of n images c) g

-- which row comes at index i: of a deep table that of the listed element
abbrev pub row_at : Bool → List ℕ → ℕ → ℕ
row_at true live i = byte live i
row_at false live i = 0

-- how many rows there are
abbrev pub rows_of : Bool → ℕ → ℕ
rows_of true count = count
rows_of false count = 1

-- g joins the cells of the first k rows
pub record JoinsRows (n : ℕ) (cells live : List ℕ) (count : ℕ) (deep : Bool) (images : ImagePair) (k : ℕ) (g : ℕ → ℕ) : Type 0 where
  pub each : (i : ℕ) → i < k → JoinsRow n cells live count deep images (row_at deep live i) g

-- g joins the cells of an operation of arity s: both, or all rows
abbrev pub JoinsCells : ℕ → List ℕ → List ℕ → ℕ → ℕ → ImagePair → (ℕ → ℕ) → Type 0
JoinsCells n cells live count zero images g = Unit {0}
JoinsCells n cells live count (suc zero) images g = g (byte cells (images.o + images.x)) ≡ g (byte cells (images.o + images.y))
JoinsCells n cells live count (suc (suc zero)) images g = JoinsRows n cells live count false images (rows_of false count) g
JoinsCells n cells live count (suc (suc (suc s))) images g = JoinsRows n cells live count true images (rows_of true count) g

pub record JoinsTable (n : ℕ) (cells live : List ℕ) (count s : ℕ) (images : ImagePair) (g : ℕ → ℕ) : Type 0 where
  pub joined : JoinsCells n cells live count s images g

-- the lines of row c lie within the cells
pub record RowInside (n : ℕ) (cells : List ℕ) (deep : Bool) (images : ImagePair) (c : ℕ) : Type 0 where
  pub last : LinesInside n cells (last_of n images c)
  pub middle : LinesInside n cells (middle_of n images c)
  pub first : deep ≡ true → LinesInside n cells (first_of n images c)

-- those of every row do
pub record RowsInside (n : ℕ) (cells live : List ℕ) (count : ℕ) (deep : Bool) (images : ImagePair) : Type 0 where
  pub rows : (i : ℕ) → i < rows_of deep count → RowInside n cells deep images (row_at deep live i)

-- the table of an operation of arity s lies within the cells, and x and y are elements
pub record TableInside (n : ℕ) (cells : List ℕ) (s : ℕ) (images : ImagePair) : Type 0 where
  pub left : images.x < n
  pub right : images.y < n
  pub room : images.o + n ^ s ≤ length cells
  pub most : length cells ≤ 32768

-- the cells are elements, and so are the listed ones
pub record Contexts (n : ℕ) (cells live : List ℕ) (count : ℕ) : Type 0 where
  pub cells_most : length cells ≤ 32768
  pub cells_below : (i : ℕ) → i < length cells → byte cells i < n
  pub live_room : count ≤ length live
  pub live_below : (i : ℕ) → i < count → byte live i < n

-- those of a pass are
abbrev pub ContextsIn : Pass → Type 0
ContextsIn p = Contexts p.n p.cells.now p.live.now (length p.live.now)
