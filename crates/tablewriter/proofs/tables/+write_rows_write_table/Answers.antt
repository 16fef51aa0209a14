-- `tables::write_rows` and `tables::write_table` meet their contracts, by the laws of Tabling.
use native.Mathlib.Omega.{arith}
use Rattle.tablewriter.proofs.Tabling.{number_fits, number_written, row_there, row_some, row_fits, row_written}
use Rattle.tablewriter.proofs.Tabling.{rows_fit, close_fits, rows_written, first_fits, last_written, gap_fits, others_fit, others_written}
use Rattle.tablewriter.proofs.tables.+write_rows_write_table.Goals as goal

pub write_rows-write_table-end-requires : goal.write_rows-write_table-end-requires
write_rows-write_table-end-requires t c = (omega arith, search first_fits)

pub write_rows-returns-then-left-eq1 : goal.write_rows-returns-then-left-eq1
write_rows-returns-then-left-eq1 t c = search last_written

pub write_rows-write_gap-next-requires : goal.write_rows-write_gap-next-requires
write_rows-write_gap-next-requires t c = search gap_fits

pub write_rows-write_rows-requires : goal.write_rows-write_rows-requires
write_rows-write_rows-requires t c = (omega arith, search others_fit)

pub write_rows-returns : goal.write_rows-returns
write_rows-returns t c = search others_written

pub write_table-write_number-requires : goal.write_table-write_number-requires
write_table-write_number-requires t c = search number_fits

pub write_table-returns-then-arity-eq0 : goal.write_table-returns-then-arity-eq0
write_table-returns-then-arity-eq0 t c = search number_written

pub write_table-slice_bounds-write_bracketed-end : goal.write_table-slice_bounds-write_bracketed-end
write_table-slice_bounds-write_bracketed-end t c = search row_there

pub write_table-write_bracketed-requires : goal.write_table-write_bracketed-requires
write_table-write_bracketed-requires t c = (search row_some, search row_fits)

pub write_table-returns-then-arity-eq1 : goal.write_table-returns-then-arity-eq1
write_table-returns-then-arity-eq1 t c = search row_written

pub write_table-write_rows-end-requires : goal.write_table-write_rows-end-requires
write_table-write_rows-end-requires t c = (omega arith, search rows_fit)

pub write_table-write_byte-requires : goal.write_table-write_byte-requires
write_table-write_byte-requires t c = search close_fits

pub write_table-returns : goal.write_table-returns
write_table-returns t c = search rows_written
