-- How far the rows of a table are read, and what falls from a table to its rows and back.
use Rattle.std.proofs.Common.{◌+◌, ◌-◌, ◌*◌, ◌^◌}
use Rattle.tablereader.specs.Tables.{table}
use Rattle.tablereader.specs.InnerPromises.{RoomFor}
use Rattle.tablereader.specs.InnerRows.{RowsRead}
use Rattle.tablereader.proofs.+read_rows_read_table.Given as goal

abbrev pub decreases-read_rows : goal.decreases-read_rows
decreases-read_rows l = 2 * l.arity

abbrev pub decreases-read_table : goal.decreases-read_table
decreases-read_table l = 2 * l.arity + 1

abbrev pub invariant-read_rows-loop-i : goal.invariant-read_rows-loop-i
invariant-read_rows-loop-i l =
    RowsRead l.text l.initial.here.at l.initial.cells l.initial.here.put (table l.n (l.arity - 1)) l.n l.cells (l.n + 1 - l._i) l.here.at l.here.put
    × RoomFor ((l.n + 1 - l._i) * l.n ^ (l.arity - 1)) l.text l.here.at l.cells l.here.put
