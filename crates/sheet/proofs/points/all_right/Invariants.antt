-- `sheet::points::all_right` meets its contract, by the laws of Faults: the first i places have points.
use Prim.Native.Nat.{ℕ, ◌<◌}
use lib.Dec.{T}
use Rattle.sheet.specs.Points.{is_point}
use Rattle.sheet.proofs.points.all_right.Given as goal

abbrev pub invariant-loop-i : goal.invariant-loop-i
invariant-loop-i l = (h : ℕ) → h < l.i → T (is_point l.n l.points h)
