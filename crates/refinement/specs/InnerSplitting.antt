-- Inner vocabulary: no contract of a service and no theorem cites this file.
-- Splitting a map along translations: what the inner functions of this crate ask of each other and promise.
use Rattle.std.specs.Prelude.{ℕ, zero, suc, ◌+◌, ◌*◌, ◌≤◌, ◌<◌, ◌≡◌, Bool, true, false, List, Option, Some, None, length, get_or}
use Rattle.equivalence.specs.Equivalence.{Map, byte}
use Rattle.kernel.specs.InnerKernel.{Listed, Canonical, Within, KeptPast, names}
use Rattle.algebra.specs.Algebra.{Algebra}
use Rattle.translation.specs.InnerTranslations.{Compatible, Refined}
use Rattle.translation.specs.InnerLines.{line_at, LineInside, PlaneInside}

-- the first `count` members of a list are elements
pub record Elements (n : ℕ) (list : List ℕ) (count : ℕ) : Type 0 where
  pub room : count ≤ length list
  pub below : (i : ℕ) → i < count → byte list i < n

-- t takes what g joins to what g joins
abbrev pub Keeps : ℕ → (ℕ → ℕ) → (ℕ → ℕ) → Type 0
Keeps n t g = Within n g (λ x. g (t x))

-- t takes each x in L to the block to which it takes the smallest member of x's block
abbrev pub KeepsOn : (ℕ → Type 0) → (ℕ → ℕ) → (ℕ → ℕ) → Type 0
KeepsOn L t g = (x : ℕ) → L x → g (t x) ≡ g (t (g x))

-- which elements stand as the other arguments, by the map that is split: every element
abbrev pub Any : ℕ → Bool → (ℕ → ℕ) → ℕ → Type 0
Any n named g r = r < n

-- or the listed ones; before the varied argument, of these only smallest members
abbrev pub Chosen : List ℕ → ℕ → Bool → (ℕ → ℕ) → ℕ → Type 0
Chosen list count named g r = Listed list count r × (named ≡ true → g r ≡ r)

-- K holds of the lines of a plane that begin at `base` moved by `row` times an element of R
abbrev pub Lines : ((ℕ → ℕ) → ℕ → Type 0) → ((ℕ → ℕ) → (ℕ → ℕ) → Type 0) → List ℕ → ℕ → ℕ → ℕ → (ℕ → ℕ) → Type 0
Lines R K cells base row stride g = (r : ℕ) → R g r → K (line_at cells (base + r * row) stride) g

-- the same for the planes of a solid that begin at `base` moved by `layer` times an element of Q
abbrev pub Planes : ((ℕ → ℕ) → ℕ → Type 0) → ((ℕ → ℕ) → ℕ → Type 0) → ((ℕ → ℕ) → (ℕ → ℕ) → Type 0) → List ℕ → ℕ → ℕ → ℕ → ℕ → (ℕ → ℕ) → Type 0
Planes Q R K cells base layer row stride g = (r : ℕ) → Q g r → Lines R K cells (base + r * layer) row stride g

-- the same for the lines of an operation of arity s whose table begins at `base`; R true is asked of arguments before the varied one
abbrev pub Table : (Bool → (ℕ → ℕ) → ℕ → Type 0) → ((ℕ → ℕ) → (ℕ → ℕ) → Type 0) → ℕ → List ℕ → ℕ → ℕ → (ℕ → ℕ) → Type 0
Table R K n cells base zero g = Unit {0}
Table R K n cells base (suc zero) g = K (line_at cells base 1) g
Table R K n cells base (suc (suc zero)) g = Lines (R false) K cells base 1 n g × Lines (R true) K cells base n 1 g
Table R K n cells base (suc (suc (suc s))) g =
    Planes (R false) (R false) K cells base n 1 (n * n) g
    × (Planes (R true) (R false) K cells base (n * n) 1 n g × Planes (R true) (R true) K cells base (n * n) n 1 g)

-- what every pass is lent: a map with room for n bytes, and cells below n
pub record MapLent (n : ℕ) (m cells : List ℕ) : Type 0 where
  pub some : 1 ≤ n
  pub small : n ≤ 64
  pub room : n ≤ length m
  pub canonical : Canonical n (byte m)
  pub below : (i : ℕ) → i < length cells → get_or cells i 0 < n

-- and what every line is split by: a line within the cells beside it
pub record LineLent (n : ℕ) (m cells : List ℕ) (base stride : ℕ) : Type 0 where
  pub map : MapLent n m cells
  pub line : LineInside n cells base stride

-- what lies on a line at x, and at the smallest member of its block
pub record ImagesLent (n : ℕ) (m cells : List ℕ) (base stride x : ℕ) : Type 0 where
  pub small : n ≤ 64
  pub room : n ≤ length m
  pub element : x < n
  pub named : byte m x < n
  pub inside : base + x * stride < length cells
  pub below : line_at cells base stride x < n
  pub first_inside : base + byte m x * stride < length cells
  pub first_below : line_at cells base stride (byte m x) < n

-- what lies at two cells
pub record CellsLent (n : ℕ) (m cells : List ℕ) (p q : ℕ) : Type 0 where
  pub small : n ≤ 64
  pub room : n ≤ length m
  pub first_inside : p < length cells
  pub first_below : byte cells p < n
  pub second_inside : q < length cells
  pub second_below : byte cells q < n

-- a map, and two rows of a plane whose lines begin one after the other: that of x, and that of the smallest member of its block
pub record RowsLent (n : ℕ) (m cells : List ℕ) (base stride x : ℕ) : Type 0 where
  pub map : MapLent n m cells
  pub plane : PlaneInside n cells base 1 stride
  pub element : x < n
  pub named : byte m x < n
  pub here : base + x * stride < length cells
  pub there : base + byte m x * stride < length cells

-- whether two names are of different blocks
pub record Parted (v w : ℕ) (r : Bool) : Type 0 where
  pub yes : r ≡ true → v ≡ w → ⊥
  pub no : r ≡ false → v ≡ w

-- t takes x to another block than the smallest member of x's block
abbrev pub Breaks : (ℕ → ℕ) → (ℕ → ℕ) → ℕ → Type 0
Breaks t f x = f (t x) ≡ f (t (f x)) → ⊥

-- r is the first index from i on of a listed element that t takes out of the block to which it takes the smallest member of the element's block, or `count`
pub record Broken (t f : ℕ → ℕ) (list : List ℕ) (count i r : ℕ) : Type 0 where
  pub after : i ≤ r
  pub most : r ≤ count
  pub kept : (k : ℕ) → i ≤ k → k < r → f (t (byte list k)) ≡ f (t (f (byte list k)))
  pub found : r < count → Breaks t f (byte list r)

-- the same where there is one, and else there is none
abbrev pub FirstBroken : (ℕ → ℕ) → (ℕ → ℕ) → List ℕ → ℕ → ℕ → Option ℕ → Type 0
FirstBroken t f list count i None = Broken t f list count i count
FirstBroken t f list count i (Some r) = (r < count) × Broken t f list count i r

-- y is the first element that f joins with x, and, where In holds of their block, the first that it joins with x after t too
pub record Alike (t f : ℕ → ℕ) (In : ℕ → Type 0) (x y : ℕ) : Type 0 where
  pub low : y ≤ x
  pub before : f y ≡ f x
  pub after : In (f x) → f (t y) ≡ f (t x)
  pub first : (z : ℕ) → z < y → f z ≡ f x → (In (f x) → f (t z) ≡ f (t x)) → ⊥

-- of the blocks that are split: one
unfoldable pub Only : ℕ → ℕ → Type 0
Only name v = v ≡ name

-- or all
unfoldable pub Every : ℕ → Type 0
Every v = Unit {0}

-- y is the first element of the block named `name` that t takes to the block named v
pub record FirstInto (t f : ℕ → ℕ) (name v y : ℕ) : Type 0 where
  pub block : f y ≡ name
  pub image : f (t y) ≡ v
  pub first : (z : ℕ) → z < y → f z ≡ name → f (t z) ≡ v → ⊥

-- for each block the first element below x of the block named `name` that t takes to it; 64 where there is none
pub record FirstsSeen (t f : ℕ → ℕ) (name x : ℕ) (seen : ℕ → ℕ) : Type 0 where
  pub below : (v : ℕ) → v < 64 → seen v < 64 → seen v < x
  pub first : (v : ℕ) → v < 64 → seen v < 64 → FirstInto t f name v (seen v)
  pub none : (v : ℕ) → v < 64 → 64 ≤ seen v → (z : ℕ) → z < x → f z ≡ name → f (t z) ≡ v → ⊥

-- a row of 64 bytes
abbrev pub row_at : List ℕ → ℕ → ℕ → ℕ
row_at seen row v = byte seen (row * 64 + v)

-- the other rows are as they were
abbrev pub OtherRows : ℕ → List ℕ → List ℕ → Type 0
OtherRows row seen seen' = (b v : ℕ) → (b ≡ row → ⊥) → v < 64 → row_at seen' b v ≡ row_at seen b v

-- the row of the block of x has those elements of it below x that are first with their image; and where x and its image lie
pub record Seen (n : ℕ) (m cells : List ℕ) (base stride row x : ℕ) (seen : List ℕ) : Type 0 where
  pub canonical : Canonical n (byte m)
  pub small : n ≤ 64
  pub room : n ≤ length m
  pub element : x < n
  pub inside : base + x * stride < length cells
  pub below : line_at cells base stride x < n
  pub image : byte m (line_at cells base stride x) < n
  pub row_inside : row * 64 + 64 ≤ length seen
  pub firsts : FirstsSeen (line_at cells base stride) (byte m) (byte m x) x (row_at seen row)

-- each block's row has its elements below x
pub record RowsSeen (t f : ℕ → ℕ) (x : ℕ) (seen : List ℕ) : Type 0 where
  pub row : (b : ℕ) → b < 64 → FirstsSeen t f b x (row_at seen b)

-- y is the new name of x, by the row of its block, and x is seen
pub record Renamed (t f : ℕ → ℕ) (row x : ℕ) (seen seen' : List ℕ) (y : ℕ) : Type 0 where
  pub alike : Alike t f (Only (f x)) x y
  pub firsts : FirstsSeen t f (f x) (x + 1) (row_at seen' row)
  pub others : OtherRows row seen seen'

-- of a list those are kept that are no smallest members of f
pub record Sifted (f : ℕ → ℕ) (list : List ℕ) (count : ℕ) (list' : List ℕ) (count' : ℕ) : Type 0 where
  pub fewer : count' ≤ count
  pub room : count' ≤ length list'
  pub old : (i : ℕ) → i < count' → Listed list count (byte list' i)
  pub all : (x : ℕ) → Listed list count x → ¬ (f x ≡ x) → Listed list' count' x

-- two lists have the same members
pub record Turned (count : ℕ) (list list' : List ℕ) : Type 0 where
  pub room : count ≤ length list'
  pub all : (x : ℕ) → Listed list count x → Listed list' count x
  pub old : (x : ℕ) → Listed list' count x → Listed list count x

-- the elements in use, and a list that has those of them that are no smallest members of f
pub record Lists (n : ℕ) (live : List ℕ) (used : ℕ) (others : List ℕ) (left : ℕ) (f : ℕ → ℕ) : Type 0 where
  pub live_elements : Elements n live used
  pub elements : Elements n others left
  pub all : (x : ℕ) → Listed live used x → ¬ (f x ≡ x) → Listed others left x

-- a map, and the line of a plane that begins at r times its row
pub record LineAt (n : ℕ) (m cells : List ℕ) (base row stride r : ℕ) : Type 0 where
  pub lent : LineLent n m cells (base + r * row) stride
  pub element : r < n
  pub named : byte m r < n
  pub begins : base + r * row < length cells

-- a map, and the plane of a solid that begins at r times its layer
pub record PlaneAt (n : ℕ) (m cells : List ℕ) (base layer row stride r : ℕ) : Type 0 where
  pub map : MapLent n m cells
  pub plane : PlaneInside n cells (base + r * layer) row stride
  pub element : r < n
  pub named : byte m r < n
  pub begins : base + r * layer < length cells

-- m was split into m': inside m, and above every g inside m of which `Good` holds. Where m' has no block more it is m, and `Done` holds of it.
pub record Split (n : ℕ) (Good Done : (ℕ → ℕ) → Type 0) (m m' : Map) : Type 0 where
  pub canonical : Canonical n (byte m')
  pub within : Within n (byte m') (byte m)
  pub greatest : (g : ℕ → ℕ) → Good g → Within n g (byte m) → Within n g (byte m')
  pub rest : KeptPast n (byte m) (byte m')
  pub more : names n (byte m) ≤ names n (byte m')
  pub still : names n (byte m') ≡ names n (byte m) → m' ≡ m
  pub done : names n (byte m') ≡ names n (byte m) → Done (byte m')

-- m was split into m', which is lent as m was
pub record MapSplit (n : ℕ) (cells : List ℕ) (Good Done : (ℕ → ℕ) → Type 0) (m m' : Map) : Type 0 where
  pub split : Split n Good Done m m'
  pub map : MapLent n m' cells

-- asked of no map: what is done where this is done has a block more
abbrev pub Never : (ℕ → ℕ) → Type 0
Never g = ⊥

-- along a line that breaks: there is a block more
pub record LineParted (n : ℕ) (cells : List ℕ) (base stride : ℕ) (m m' : Map) : Type 0 where
  pub parted : MapSplit n cells (Keeps n (line_at cells base stride)) Never m m'

-- along a line, as far as a list tells, and the list was sifted
pub record LineSplit (n : ℕ) (cells : List ℕ) (base stride : ℕ) (m m' : Map) (list : List ℕ) (count : ℕ) (list' : List ℕ) (count' : ℕ) : Type 0 where
  pub split : MapSplit n cells (Keeps n (line_at cells base stride)) (KeepsOn (Listed list count) (line_at cells base stride)) m m'
  pub sifted : Sifted (byte m') list count list' count'

-- the same, if r is a smallest member
pub record ChosenSplit (n : ℕ) (cells : List ℕ) (base stride r : ℕ) (m m' : Map) (list : List ℕ) (count : ℕ) (list' : List ℕ) (count' : ℕ) : Type 0 where
  pub split : MapSplit n cells (Keeps n (line_at cells base stride)) (λ g. g r ≡ r → KeepsOn (Listed list count) (line_at cells base stride) g) m m'
  pub sifted : Sifted (byte m') list count list' count'

-- at every listed context the line keeps x beside the smallest member of its block; contexts are next to each other
abbrev pub ElementKept : List ℕ → ℕ → List ℕ → ℕ → ℕ → ℕ → (ℕ → ℕ) → Type 0
ElementKept live used cells base stride x g = (c : ℕ) → Listed live used c → g (line_at cells (base + c * 1) stride x) ≡ g (line_at cells (base + c * 1) stride (g x))

-- m was split along the lines that took x from the smallest member of its block
pub record ElementSplit (n : ℕ) (live : List ℕ) (used : ℕ) (cells : List ℕ) (base stride x : ℕ) (m m' : Map) : Type 0 where
  pub split : MapSplit n cells (Lines (Any n false) (Keeps n) cells base 1 stride) (ElementKept live used cells base stride x) m m'

-- what a walk over the lines of a table is lent: a map and cells, the elements in use, and a list that has those of them that are no smallest members
pub record Walk (n : ℕ) (live : List ℕ) (used : ℕ) (cells : List ℕ) (m : Map) (others : List ℕ) (left : ℕ) : Type 0 where
  pub map : MapLent n m cells
  pub lists : Lists n live used others left (byte m)

-- what a walk gives: m was split, and the next walk is lent the same again
pub record Walked (n : ℕ) (live : List ℕ) (used : ℕ) (cells : List ℕ) (Good Done : (ℕ → ℕ) → Type 0) (m m' : Map) (others' : List ℕ) (left' : ℕ) : Type 0 where
  pub split : Split n Good Done m m'
  pub walk : Walk n live used cells m' others' left'

-- a walk over the lines of a plane
pub record LinesWalked (n : ℕ) (live : List ℕ) (used : ℕ) (cells : List ℕ) (base : ℕ) (named : Bool) (row stride : ℕ) (m m' : Map) (others' : List ℕ) (left' : ℕ) : Type 0 where
  pub walked : Walked n live used cells (Lines (Any n named) (Keeps n) cells base row stride) (Lines (Chosen live used named) (KeepsOn (Listed live used)) cells base row stride) m m' others' left'

-- over those of the plane at r, which is looked at where `named` says no, or r is a smallest member
pub record PlaneWalked (n : ℕ) (live : List ℕ) (used : ℕ) (cells : List ℕ) (base r : ℕ) (named inner : Bool) (row stride : ℕ) (m m' : Map) (others' : List ℕ) (left' : ℕ) : Type 0 where
  pub walked : Walked n live used cells (Lines (Any n inner) (Keeps n) cells base row stride)
      (λ g. (named ≡ true → g r ≡ r) → Lines (Chosen live used inner) (KeepsOn (Listed live used)) cells base row stride g) m m' others' left'

-- over the planes of a solid
pub record PlanesWalked (n : ℕ) (live : List ℕ) (used : ℕ) (cells : List ℕ) (base : ℕ) (named inner : Bool) (layer row stride : ℕ) (m m' : Map) (others' : List ℕ) (left' : ℕ) : Type 0 where
  pub walked : Walked n live used cells (Planes (Any n named) (Any n inner) (Keeps n) cells base layer row stride)
      (Planes (Chosen live used named) (Chosen live used inner) (KeepsOn (Listed live used)) cells base layer row stride) m m' others' left'

-- over a table
pub record TableWalked (n : ℕ) (live : List ℕ) (used : ℕ) (cells : List ℕ) (base s : ℕ) (m m' : Map) (others' : List ℕ) (left' : ℕ) : Type 0 where
  pub walked : Walked n live used cells (Table (Any n) (Keeps n) n cells base s) (Table (Chosen live used) (KeepsOn (Listed live used)) n cells base s) m m' others' left'

-- over all tables of an algebra
pub record AllWalked (a : Algebra) (live : List ℕ) (used : ℕ) (m m' : Map) (others' : List ℕ) (left' : ℕ) : Type 0 where
  pub walked : Walked a.size live used a.cells (Compatible a) (Compatible a) m m' others' left'

-- r is the first index of a context at which it does not, or `used`
pub record Apart (live : List ℕ) (used : ℕ) (cells : List ℕ) (base stride x : ℕ) (f : ℕ → ℕ) (r : ℕ) : Type 0 where
  pub most : r ≤ used
  pub kept : (k : ℕ) → k < r → f (line_at cells (base + byte live k * 1) stride x) ≡ f (line_at cells (base + byte live k * 1) stride (f x))
  pub found : r < used → Breaks (line_at cells (base + byte live r * 1) stride) f x

-- the same where there is one, and else there is none
abbrev pub FirstApart : List ℕ → ℕ → List ℕ → ℕ → ℕ → ℕ → (ℕ → ℕ) → Option ℕ → Type 0
FirstApart live used cells base stride x f None = Apart live used cells base stride x f used
FirstApart live used cells base stride x f (Some r) = (r < used) × Apart live used cells base stride x f r

-- the listed elements stand for all: they have the smallest members of every block of some congruence within e
pub record Represented (a : Algebra) (live : List ℕ) (used : ℕ) (e : ℕ → ℕ) : Type 0 where
  pub elements : Elements a.size live used
  pub name : ℕ → ℕ
  pub canonical : Canonical a.size name
  pub compatible : Compatible a name
  pub within : Within a.size name e
  pub listed : (x : ℕ) → x < a.size → Listed live used (name x)

-- m became the greatest congruence inside it, and what is past its n bytes stayed
pub record MapRefined (a : Algebra) (m m' : Map) : Type 0 where
  pub refined : Refined a (byte m) (byte m')
  pub rest : KeptPast a.size (byte m) (byte m')
