-- `tables::write_number_rows` meets its contract, by the laws of Tabling.
use native.Mathlib.Omega.{arith}
use Rattle.tablewriter.proofs.Tabling.{rows_there, rows_left_all, next_row_within, next_row_some, next_row_fits, next_row_below, last_row_written, row_gap_fits, rows_left_more}
use Rattle.tablewriter.proofs.tables.write_number_rows.Goals as goal

pub overflow_mul-all : goal.overflow_mul-all
overflow_mul-all c = omega (arith, rows_there _ _ _ _ _ c.requires)

pub slice_bounds-largest-end : goal.slice_bounds-largest-end
slice_bounds-largest-end c = search rows_there

pub loop-i-init : goal.loop-i-init
loop-i-init c = rows_left_all _ _ _ _ _ c.requires _ (omega arith)

pub slice_bounds-write_row-end : goal.slice_bounds-write_row-end
slice_bounds-write_row-end c = search next_row_within

pub write_row-end-requires-clause-m_nonzero : goal.write_row-end-requires-clause-m_nonzero
write_row-end-requires-clause-m_nonzero c = (search next_row_some, search next_row_fits)

pub write_row-end-requires-clause-numbers_below : goal.write_row-end-requires-clause-numbers_below
write_row-end-requires-clause-numbers_below c = search next_row_below

pub write_gap-at-requires : goal.write_gap-at-requires
write_gap-at-requires c = row_gap_fits _ _ _ _ _ _ _ _ _ c.loop-i.invariant _ _ c.write_row-end.ensures.laid (omega arith)

pub loop-i-preserved : goal.loop-i-preserved
loop-i-preserved c = rows_left_more _ _ _ _ _ _ _ _ _ c.loop-i.invariant _ _ c.write_row-end.ensures.laid (omega arith) _ _ c.write_gap-at.ensures.laid _ (omega arith)

pub slice_bounds-write_row-end-2 : goal.slice_bounds-write_row-end-2
slice_bounds-write_row-end-2 c = search next_row_within

pub write_row-requires-clause-m_nonzero : goal.write_row-requires-clause-m_nonzero
write_row-requires-clause-m_nonzero c = (search next_row_some, search next_row_fits)

pub write_row-requires-clause-numbers_below : goal.write_row-requires-clause-numbers_below
write_row-requires-clause-numbers_below c = search next_row_below

pub returns : goal.returns
returns c = last_row_written _ _ _ _ _ _ _ _ _ c.loop-i.invariant _ _ c.write_row.ensures.laid (omega arith)
