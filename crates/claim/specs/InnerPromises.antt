-- What inner functions ask for.
use Rattle.std.specs.Prelude.{ℕ, ◌≤◌, ◌<◌, List, length, get_or}
use Rattle.algebra.specs.Algebra.{cell_count}

-- the cells over b elements can be counted, and stand at the start of the tables
pub record TablesFit (b : ℕ) (arities tables : List ℕ) : Type 0 where
  pub most : b ≤ 64
  pub operations : length arities ≤ 16
  pub arity : (i : ℕ) → i < length arities → get_or arities i 0 ≤ 3
  pub room : cell_count b arities ≤ length tables
