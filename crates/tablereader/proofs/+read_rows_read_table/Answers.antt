-- `tablereader::read_rows` and `tablereader::read_table` meet their contracts, by the laws of Parted and Storing.
use Rattle.std.proofs.Common.{◌*◌, ◌^◌, ◌-◌, ap}
use Rattle.numberreader.proofs.Readers.{within_text}
use native.Mathlib.Omega.{arith}
use Rattle.tablereader.proofs.Parted.{rows_read_none, rows_read_fault, rows_read_unparted, rows_read_more, rows_read_last}
use Rattle.tablereader.proofs.Storing.{table_cell, rows_cells, table_unopened, table_fault, table_unclosed, table_closed}
use Rattle.tablereader.proofs.RoomLeft.{room_rows, room_row_cells, room_row, room_rest, room_same}
use Rattle.tablereader.proofs.+read_rows_read_table.Goals as goal

pub read_rows-read_row-requires-clause-room_for : goal.read_rows-read_row-requires-clause-room_for
read_rows-read_row-requires-clause-room_for t c = search room_row_cells

pub read_rows-returns-then-arity-eq1 : goal.read_rows-returns-then-arity-eq1
read_rows-returns-then-arity-eq1 t c = rw (rows_cells c.args.n c.args.arity c.args.n (omega arith)) c.read_row.ensures

pub read_rows-loop-i-init : goal.read_rows-loop-i-init
read_rows-loop-i-init t c = (
  rows_read_none _ _ _ _ _ _ c.requires.room_for (omega arith) _ (omega arith),
  room_same (ap (λ k. k * c.args.n ^ (c.args.arity - 1)) (omega arith)) c.requires.room_for,
)

pub read_rows-read_table-requires : goal.read_rows-read_table-requires
read_rows-read_table-requires t c = (omega arith, (search room_row, omega arith))

pub read_rows-returns-in_err-item : goal.read_rows-returns-in_err-item
read_rows-returns-in_err-item t c =
    rw c.from_residual.ensures (rows_read_fault _ _ _ _ _ _ _ _ _ _ c.loop-i.invariant.0 _ c.in_err-item.ensures)

pub read_rows-returns-in_err-next : goal.read_rows-returns-in_err-next
read_rows-returns-in_err-next t c =
    rw c.from_residual-in_err-next.ensures
    (rows_read_unparted _ _ _ _ _ _ _ _ _ _ c.loop-i.invariant.0 _ _ c.in_ok-item.ensures (omega arith) c.in_err-next.ensures)

pub read_rows-loop-i-preserved : goal.read_rows-loop-i-preserved
read_rows-loop-i-preserved t c = (
  rows_read_more _ _ _ _ _ _ _ _ _ _ c.loop-i.invariant.0 _ _ c.in_ok-item.ensures (omega arith) _ c.in_ok-next.ensures _ (omega arith),
  room_rest _ _ _ _ _ _ _ (omega arith) c.loop-i.invariant.1 _ _ c.in_ok-item.ensures _ c.in_ok-next.ensures _ (omega arith),
)

pub read_rows-read_table-requires-2 : goal.read_rows-read_table-requires-2
read_rows-read_table-requires-2 t c = (omega arith, (search room_row, omega arith))

pub read_rows-returns : goal.read_rows-returns
read_rows-returns t c = rows_read_last _ _ _ _ _ _ _ _ _ _ c.loop-i.invariant.0 _ (omega arith) _ c.read_table-2.ensures

pub read_table-returns-then-arity-eq0 : goal.read_table-returns-then-arity-eq0
read_table-returns-then-arity-eq0 t c = rw (table_cell c.args.n c.args.arity (omega arith)) c.read_cell.ensures

pub read_table-returns-then-byte_at-ne91 : goal.read_table-returns-then-byte_at-ne91
read_table-returns-then-byte_at-ne91 t c = search table_unopened

pub read_table-read_rows-requires : goal.read_table-read_rows-requires
read_table-read_rows-requires t c =
    let l = within_text c.args.text.now c.args.from.at (omega arith) in
    (omega arith, (search room_rows, omega arith))

pub read_table-returns-in_err-rows : goal.read_table-returns-in_err-rows
read_table-returns-in_err-rows t c =
    rw c.from_residual.ensures (let s = c.in_err-rows.ensures in search table_fault)

pub read_table-returns-then-byte_at-ne93 : goal.read_table-returns-then-byte_at-ne93
read_table-returns-then-byte_at-ne93 t c = let s = c.in_ok-rows.ensures in search table_unclosed

pub read_table-returns : goal.read_table-returns
read_table-returns t c = let s = c.in_ok-rows.ensures in search table_closed
