-- `settle_rows`: the rows before x are settled.
use Prim.Native.Nat.{◌+◌, ◌-◌}
use mathlib.Core.Path.{◌≡◌}
use lib.ListN.{length}
use Rattle.separation.proofs.Standings.{Rows}
use Rattle.separation.proofs.search.settle_rows.Given as goal

abbrev pub invariant-loop-up : goal.invariant-loop-up
invariant-loop-up l = (length l.table ≡ length l.initial.table) × Rows l.n l.arities l.cells l.initial.up l.standing.map l.standing.names.list l.standing.names.places l.refused l.up l.marked l.v l.w l.standing.names.count l.trials l.x

abbrev pub decreases-loop-up : goal.decreases-loop-up
decreases-loop-up l = l.v + 1 - l.x
