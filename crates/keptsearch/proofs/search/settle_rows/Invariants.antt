-- `settle_rows`: the rows before x are settled.
use Prim.Native.Nat.{◌+◌, ◌-◌}
use mathlib.Core.Path.{◌≡◌}
use lib.ListN.{length}
use Rattle.algebra.specs.Algebra.{algebra_of}
use Rattle.keeping.specs.InnerKeeping.{Keeping}
use Rattle.keptsearch.proofs.KeptRows.{Rows}
use Rattle.keptsearch.proofs.search.settle_rows.Given as goal

abbrev pub invariant-loop-up : goal.invariant-loop-up
invariant-loop-up l = (length l.table ≡ length l.initial.table) × Keeping (algebra_of l.n l.arities l.cells) l.maps l.marks × Rows l.n l.arities l.cells l.initial.up l.m l.up l.marked l.v l.w l.x

abbrev pub decreases-loop-up : goal.decreases-loop-up
decreases-loop-up l = l.v + 1 - l.x
