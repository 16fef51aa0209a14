-- `close`: the first k of the queue are dealt with (`Running`); at the end of the queue the map is compatible, and the elements in use are its names.
use Prim.Native.Nat.{◌-◌, ◌≤◌}
use Rattle.algebra.specs.Algebra.{algebra_of}
use Rattle.closure.proofs.Closings.{Running, Rounds}
use Rattle.closure.specs.InnerClosing.{InUse}
use Rattle.sweep.specs.InnerContexts.{Contexts}
use Rattle.sweep.specs.InnerQueue.{state_of}
use Rattle.closure.proofs.rounds.close.Given as goal

abbrev pub invariant-loop-k : goal.invariant-loop-k
invariant-loop-k l = (l.k ≤ l.merging.len) × InUse l.n l.live.list l.live.places l.live.count × Contexts l.n l.cells l.live.list l.live.count × Rounds l.n l.refused l.stop (algebra_of l.n l.arities l.cells) (state_of l.initial.merging) (state_of l.merging) × Running (algebra_of l.n l.arities l.cells) l.stop.v l.stop.w l.k (state_of l.merging) l.live.list l.live.count

abbrev pub decreases-loop-k : goal.decreases-loop-k
decreases-loop-k l = l.n - l.k
