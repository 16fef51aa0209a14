-- What falls from a table to its rows and back: the arity, then the tables left.
use Rattle.std.proofs.Common.{◌+◌, ◌*◌}
use Rattle.tablewriter.proofs.tables.+write_rows_write_table.Given as goal

abbrev pub decreases-write_rows : goal.decreases-write_rows
decreases-write_rows l = l.arity * 66 + l.left

abbrev pub decreases-write_table : goal.decreases-write_table
decreases-write_table l = l.arity * 66
