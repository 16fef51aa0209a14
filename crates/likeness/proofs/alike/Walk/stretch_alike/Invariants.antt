-- `stretch_alike` meets its contract. The loop has compared the first i cells.
use Prim.Native.Nat.{◌-◌, ◌≤◌}
use Rattle.equivalence.specs.Equivalence.{byte}
use Rattle.likeness.specs.InnerAlike.{StretchAlike}
use Rattle.likeness.proofs.alike.Walk.stretch_alike.Given as goal

abbrev pub invariant-loop-i : goal.invariant-loop-i
invariant-loop-i l = (l.i ≤ l.count) × StretchAlike l.i l.self.cells.now (byte l.self.m.now) l.base l.first

abbrev pub decreases-loop-i : goal.decreases-loop-i
decreases-loop-i l = l.count - l.i
