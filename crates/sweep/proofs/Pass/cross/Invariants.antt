-- `cross`: the places passed are joined, unless v and w are, and everything that joins all of them, and heeds the marks, has made the merges.
use Prim.Native.Nat.{◌-◌, ◌≤◌}
use lib.ListN.{length}
use Rattle.sweep.specs.InnerContexts.{JoinsCross}
use Rattle.sweep.specs.InnerQueue.{state_of}
use Rattle.sweep.specs.InnerSweeps.{SweptTo}
use Rattle.sweep.proofs.Pass.cross.Given as goal

abbrev pub invariant-loop-j : goal.invariant-loop-j
invariant-loop-j l = (l.i ≤ length l.self.live.now) × SweptTo l.self.n l.self.refused.now l.self.stop (JoinsCross l.self.cells.now l.self.live.now (length l.self.live.now) l.last l.first) (JoinsCross l.self.cells.now l.self.live.now l.i l.last l.first) (state_of l.initial.merging) (state_of l.merging)

abbrev pub decreases-loop-j : goal.decreases-loop-j
decreases-loop-j l = length l.self.live.now - l.i
