-- The row of an element beside the row of the smallest member of its block: where the cells lie, and what is known where they are together or apart.
use Prim.Native.Nat.{ℕ, ◌+◌, ◌*◌, ◌≤◌, ◌<◌}
use mathlib.Core.Bool.{Bool, true, false}
use mathlib.Core.List.{List}
use mathlib.Core.Path.{◌≡◌, sym, ap, ◌∙◌}
use native.Mathlib.Omega.{arith}
use lib.ListN.{length, get_or}
use borrow.Author.Count.{below_more}
use Rattle.equivalence.specs.Equivalence.{Map, byte}
use Rattle.kernel.specs.InnerKernel.{Listed}
use Rattle.translation.specs.InnerLines.{line_at, LineInside, PlaneInside}
use Rattle.refinement.specs.InnerSplitting.{Elements, Keeps, KeepsOn, Any, Lines, MapLent, LineLent, LineParted, Split, Parted, CellsLent, RowsLent, ElementKept, Apart}
use Rattle.refinement.proofs.Splits.{by_index, split_more}

-- ---- where the cells lie

-- both rows begin within the cells
pub rows_lent : {n : ℕ} {m cells : Map} {base stride x : ℕ} → MapLent n m cells → PlaneInside n cells base 1 stride → x < n → RowsLent n m cells base stride x
rows_lent {n} {m} {x = x} p q l =
    let k : byte m x < n = omega (arith, p.canonical.below x l) in
    record {
      map = p;
      plane = q;
      element = l;
      named = k;
      here = omega (arith, (q.lines 0 p.some).inside x l);
      there = omega (arith, (q.lines 0 p.some).inside (byte m x) k);
    }

-- so do the cells of a context
pub row_cells : {n used i : ℕ} {m cells live : Map} {base stride x : ℕ} → RowsLent n m cells base stride x → Elements n live used → i < used
    → CellsLent n m cells (base + x * stride + byte live i) (base + byte m x * stride + byte live i)
row_cells {n} {i = i} {m} {cells} {live} {base} {stride} {x} p e l =
    let c : byte live i < n = e.below i l in
    let h : base + x * stride + byte live i < length cells = omega (arith, (p.plane.lines (byte live i) c).inside x p.element) in
    let t : base + byte m x * stride + byte live i < length cells = omega (arith, (p.plane.lines (byte live i) c).inside (byte m x) p.named) in
    record {
      small = p.map.small;
      room = p.map.room;
      first_inside = h;
      first_below = p.map.below _ h;
      second_inside = t;
      second_below = p.map.below _ t;
    }

-- ---- together and apart

-- a cell of the row is one of the line
cell_along : (cells : List ℕ) (base stride x c : ℕ) → line_at cells (base + c * 1) stride x ≡ get_or cells (base + x * stride + c) 0
cell_along cells base stride x c = ap (λ (z : ℕ). get_or cells z 0) (omega arith)

-- at the first i elements in use the cells of two rows are in one block
pub record Beside (live : List ℕ) (used : ℕ) (cells : List ℕ) (here there : ℕ) (f : ℕ → ℕ) (i : ℕ) : Type 0 where
  pub most : i ≤ used
  pub kept : (k : ℕ) → k < i → f (byte cells (here + byte live k)) ≡ f (byte cells (there + byte live k))

pub beside_more : {live : List ℕ} {used : ℕ} {cells : List ℕ} {here there : ℕ} {f : ℕ → ℕ} {i : ℕ} {b : Bool} → Beside live used cells here there f i → i < used
    → Parted (f (byte cells (here + byte live i))) (f (byte cells (there + byte live i))) b → b ≡ false → Beside live used cells here there f (i + 1)
beside_more s l p e = record { most = omega arith; kept = below_more _ _ s.kept (p.no e) }

-- two elements at once
pub beside_two : {live : List ℕ} {used : ℕ} {cells : List ℕ} {here there : ℕ} {f : ℕ → ℕ} {i : ℕ} {a b : Bool} → Beside live used cells here there f i → i + 1 < used
    → Parted (f (byte cells (here + byte live i))) (f (byte cells (there + byte live i))) a → a ≡ false
    → Parted (f (byte cells (here + byte live (i + 1)))) (f (byte cells (there + byte live (i + 1)))) b → b ≡ false → Beside live used cells here there f (i + 2)
beside_two {i = i} s l p e q h = let next : i + 1 + 1 ≡ i + 2 = omega arith in rw next at (beside_more (beside_more s (omega arith) p e) l q h)

module _ {live : List ℕ} {used : ℕ} {cells : List ℕ} {base stride x : ℕ} {f : ℕ → ℕ} {i : ℕ} (s : Beside live used cells (base + x * stride) (base + f x * stride) f i) where
  pub beside_found : {b : Bool} → Parted (f (byte cells (base + x * stride + byte live i))) (f (byte cells (base + f x * stride + byte live i))) b → b ≡ true → i < used
      → (i < used) × Apart live used cells base stride x f i
  beside_found p e l = (
    l,
    record {
      most = s.most;
      kept = λ k lk. ap f (cell_along cells base stride x (byte live k)) ∙ s.kept k lk ∙ ap f (sym (cell_along cells base stride (f x) (byte live k)));
      found = λ q o. p.yes e (ap f (sym (cell_along cells base stride x (byte live i))) ∙ o ∙ ap f (cell_along cells base stride (f x) (byte live i)));
    },
  )

  pub beside_all : used ≤ i → Apart live used cells base stride x f used
  beside_all l = record {
    most = omega arith;
    kept = λ k lk. ap f (cell_along cells base stride x (byte live k)) ∙ s.kept k (omega arith) ∙ ap f (sym (cell_along cells base stride (f x) (byte live k)));
    found = λ q. absurd (omega arith);
  }

-- ---- the line of a context

times_one : (c : ℕ) → c * 1 ≡ c
times_one c = omega arith

pub line_at_lem : {n c base stride : ℕ} {cells : List ℕ} → PlaneInside n cells base 1 stride → c < n → LineInside n cells (base + c) stride
line_at_lem {c = c} q l = record { inside = λ x lx. omega (arith, (q.lines c l).inside x lx) }

pub keeps_at : (n c base stride : ℕ) (cells : List ℕ) (g : ℕ → ℕ) → Lines (Any n false) (Keeps n) cells base 1 stride g → c < n → Keeps n (line_at cells (base + c) stride) g
keeps_at n c base stride cells g h l = rw (times_one c) at (h c l)

-- ---- splitting until x is beside the smallest member of its block

-- m₀ was split along lines that took them apart
pub record Near (n : ℕ) (live : List ℕ) (used : ℕ) (cells : List ℕ) (base stride x : ℕ) (m₀ m : Map) : Type 0 where
  pub rows : RowsLent n m cells base stride x
  pub elements : Elements n live used
  pub split : Split n (Lines (Any n false) (Keeps n) cells base 1 stride) (λ g. Unit {0}) m₀ m

module _ {n : ℕ} {live : List ℕ} {used : ℕ} {cells : List ℕ} {base stride x : ℕ} {m₀ m : Map} (s : Near n live used cells base stride x m₀ m) where
  module _ {r : ℕ} (a : (r < used) × Apart live used cells base stride x (byte m) r) where
    context : byte live r < n
    context = s.elements.below r a.0

    pub near_line : LineLent n m cells (base + byte live r) stride
    near_line = record { map = s.rows.map; line = line_at_lem s.rows.plane context }

    pub near_more : {m' : Map} → LineParted n cells (base + byte live r) stride m m' → Near n live used cells base stride x m₀ m'
    near_more u = record {
      rows = rows_lent u.parted.map s.rows.plane s.rows.element;
      elements = s.elements;
      split = split_more (λ g good. keeps_at n (byte live r) base stride cells g good context) (λ g d e. tt) s.split u.parted.split;
    }

-- ---- all others

pub rows_kept : (live others : List ℕ) (used left : ℕ) (cells : List ℕ) (base stride : ℕ) (g : ℕ → ℕ)
    → ((k : ℕ) → k < left → ElementKept live used cells base stride (byte others k) g) → (r : ℕ) → Listed live used r → KeepsOn (Listed others left) (line_at cells (base + r * 1) stride) g
rows_kept live others used left cells base stride g h r lr =
    by_index others left (λ (x : ℕ). g (line_at cells (base + r * 1) stride x) ≡ g (line_at cells (base + r * 1) stride (g x))) (λ k lk. h k lk r lr)
