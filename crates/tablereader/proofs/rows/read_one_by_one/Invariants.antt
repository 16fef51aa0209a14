-- `rows::read_one_by_one` meets its contract, by the laws of Parted.
use Rattle.std.proofs.Common.{◌+◌, ◌-◌}
use Rattle.tablereader.specs.Tables.{cell}
use Rattle.tablereader.specs.InnerPromises.{RoomFor}
use Rattle.tablereader.specs.InnerRows.{RowsRead}
use Rattle.tablereader.proofs.rows.read_one_by_one.Given as goal

abbrev pub invariant-loop-i : goal.invariant-loop-i
invariant-loop-i l =
    RowsRead l.text l.initial.here.at l.initial.cells l.initial.here.put cell l.n l.cells (l.n + 1 - l._i) l.here.at l.here.put × RoomFor (l.n + 1 - l._i) l.text l.here.at l.cells l.here.put
