-- `tables::write_number_rows` meets its contract, by the laws of Tabling.
use Prim.Native.Nat.{◌+◌, ◌-◌}
use Rattle.tablewriter.proofs.Tabling.{RowsLeft}
use Rattle.tablewriter.proofs.tables.write_number_rows.Given as goal

abbrev pub invariant-loop-i : goal.invariant-loop-i
invariant-loop-i l = RowsLeft l.n l.left l.cells l.initial.out l.put l.out l.at l.from (l.left + 1 - l._i)
