-- `points::returned` meets its contract.
use native.Mathlib.Omega.{arith}
use Rattle.sheet.specs.Points.{point_in, map_under}
use Rattle.sheet.specs.Sheet.{sheet_with}
use Rattle.sheet.proofs.Storing.{held_place}
use Rattle.points.proofs.returned.Goals as goal

pub bounds-sheet-place : goal.bounds-sheet-place
bounds-sheet-place c = let k = c.requires in
    omega (arith, (held_place _ _ k.t).0, c.place_named-place.ensures.0, k.count_bound)

pub returns : goal.returns
unfolding point_in map_under sheet_with
returns c = rw (c.copy_map.ensures, c.place_named-place.ensures.0)
