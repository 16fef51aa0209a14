-- `take_all_whole`: y goes down.
use Prim.Native.Nat.{◌+◌}
use Rattle.keptsearch.specs.InnerRows.{RowLent}
use Rattle.keptsearch.proofs.row.take_all_whole.Given as goal

abbrev pub invariant-loop-y : goal.invariant-loop-y
invariant-loop-y l = RowLent l.n l.arities l.cells l.m l.all l.marked l.x (l.x + 1)
