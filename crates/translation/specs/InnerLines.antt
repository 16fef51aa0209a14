-- Inner vocabulary: no contract of a service and no theorem cites this file.
-- Lines of a table: the cells that one argument runs through while the others stay. A line begins at `base`, and its cells are `stride` apart; the lines of a
-- plane begin `row` apart, and the planes of a solid `layer` apart.
use Rattle.std.specs.Prelude.{ℕ, ◌+◌, ◌*◌, ◌<◌, List, length, get_or}

-- the cell at x of a line: a translation
abbrev pub line_at : List ℕ → ℕ → ℕ → ℕ → ℕ
line_at cells base stride x = get_or cells (base + x * stride) 0

-- the line lies within the cells
pub record LineInside (n : ℕ) (cells : List ℕ) (base stride : ℕ) : Type 0 where
  pub inside : (x : ℕ) → x < n → base + x * stride < length cells

-- the plane lies within the cells
pub record PlaneInside (n : ℕ) (cells : List ℕ) (base row stride : ℕ) : Type 0 where
  pub lines : (r : ℕ) → r < n → LineInside n cells (base + r * row) stride

-- the solid lies within the cells
pub record SolidInside (n : ℕ) (cells : List ℕ) (base layer row stride : ℕ) : Type 0 where
  pub planes : (r : ℕ) → r < n → PlaneInside n cells (base + r * layer) row stride
