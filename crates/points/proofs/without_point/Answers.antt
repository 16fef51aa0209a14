-- `points::without_point` meets its contract.
use native.Mathlib.Omega.{arith}
use Rattle.sheet.specs.Points.{point_in, without_point}
use Rattle.sheet.proofs.Storing.{held_place}
use Rattle.points.proofs.without_point.Goals as goal

pub overflow_sub-last : goal.overflow_sub-last
overflow_sub-last c = omega (arith, (held_place _ _ c.requires.t).0)

pub bounds-sheet-place : goal.bounds-sheet-place
bounds-sheet-place c = let k = c in
    omega (arith, (held_place _ _ k.requires.t).0, k.place_named-place.ensures.0, k.requires.count_bound)

pub returns : goal.returns
unfolding point_in without_point
returns c = rw c.place_named-place.ensures.0
