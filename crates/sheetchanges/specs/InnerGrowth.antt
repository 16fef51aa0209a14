-- What inner functions promise each other of a map, and of a sheet, that is extended by a pair.
use Rattle.std.specs.Prelude.{ℕ, ◌≤◌, List, ◌≡◌, take}
use Rattle.equivalence.specs.Lent.{written}
use Rattle.algebra.specs.Algebra.{Algebra}
use Rattle.theory.specs.Extremal.{extended}
use Rattle.sheet.specs.Sheet.{map_on, sheet_with}
use Rattle.sheet.specs.declared.Sheet.{Sheet}
use Rattle.benchsheets.specs.State.{blocks_lost}

-- the first bytes of `old`, a map, became the least congruence that holds it and the pair, at the cost of `lost` blocks
pub record MapGrown (a : Algebra) (x y : ℕ) (old new : List ℕ) (lost : ℕ) : Type 0 where
  pub bytes : new ≡ written (extended a (take a.size old) x y) old
  pub blocks : lost ≡ blocks_lost a.size (take a.size old) (extended a (take a.size old) x y)
  pub few : lost ≤ 64

-- the same of a sheet
pub record SheetGrown (a : Algebra) (x y : ℕ) (old new : Sheet) (lost : ℕ) : Type 0 where
  pub sheet : new ≡ sheet_with (extended a (map_on a.size old) x y) old
  pub blocks : lost ≡ blocks_lost a.size (map_on a.size old) (extended a (map_on a.size old) x y)
  pub few : lost ≤ 64
