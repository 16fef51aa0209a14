-- `rows::read_one_by_one` meets its contract, by the laws of Parted.
use native.Mathlib.Omega.{arith}
use Rattle.tablereader.proofs.RoomLeft.{room_first, room_others, room_same}
use Rattle.tablereader.proofs.Parted.{rows_read_none, rows_read_fault, rows_read_unparted, rows_read_more, rows_read_last}
use Rattle.tablereader.proofs.rows.read_one_by_one.Goals as goal

pub loop-i-init : goal.loop-i-init
loop-i-init c =
    (rows_read_none _ _ _ _ _ _ c.requires.room_for (omega arith) _ (omega arith), room_same (omega arith) c.requires.room_for)

pub read_cell-requires : goal.read_cell-requires
read_cell-requires c = search room_first

pub returns-in_err-item : goal.returns-in_err-item
returns-in_err-item c = rw c.from_residual.ensures (rows_read_fault _ _ _ _ _ _ _ _ _ _ c.loop-i.invariant.0 _ c.in_err-item.ensures)

pub returns-in_err-next : goal.returns-in_err-next
returns-in_err-next c =
    rw c.from_residual-in_err-next.ensures
    (rows_read_unparted _ _ _ _ _ _ _ _ _ _ c.loop-i.invariant.0 _ _ c.in_ok-item.ensures (omega arith) c.in_err-next.ensures)

pub loop-i-preserved : goal.loop-i-preserved
loop-i-preserved c = (
  rows_read_more _ _ _ _ _ _ _ _ _ _ c.loop-i.invariant.0 _ _ c.in_ok-item.ensures (omega arith) _ c.in_ok-next.ensures _ (omega arith),
  room_others _ _ _ _ _ (omega arith) c.loop-i.invariant.1 _ _ c.in_ok-item.ensures _ c.in_ok-next.ensures _ (omega arith),
)

pub read_cell-requires-2 : goal.read_cell-requires-2
read_cell-requires-2 c = search room_first

pub returns : goal.returns
returns c = rows_read_last _ _ _ _ _ _ _ _ _ _ c.loop-i.invariant.0 _ (omega arith) _ c.read_cell-2.ensures
