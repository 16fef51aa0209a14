-- `short_rows::read_short` meets its contract, by the laws of ShortRows.
use Prim.Native.Nat.{◌+◌, ◌-◌, ◌*◌, ◌≤◌}
use Rattle.tablereader.specs.InnerRows.{RowBegun}
use Rattle.tablereader.proofs.short_rows.read_short.Given as goal

abbrev pub invariant-loop-i : goal.invariant-loop-i
invariant-loop-i l = RowBegun l.n l.text l.at l.initial.cells l.put l.cells (l.n - l.i) (l.at + 2 * l.i) (l.put + l.i) × (l.i ≤ l.count)
