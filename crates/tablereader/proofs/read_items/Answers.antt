-- `tablereader::read_items` meets its contract, by the laws of Items.
use Rattle.tablereader.proofs.Items.{items_read_none, items_read_room, items_read_fault, items_read_more, items_read_all}
use Rattle.tablereader.proofs.read_items.Goals as goal

pub loop-after-init : goal.loop-after-init
loop-after-init c = search items_read_none

pub read_table-requires-clause-room_for : goal.read_table-requires-clause-room_for
read_table-requires-clause-room_for c = items_read_room _ _ _ _ _ _ _ _ c.loop-after.invariant _ c.in-Some.ensures c.requires.room_for_text _

pub returns-in_err-here : goal.returns-in_err-here
returns-in_err-here c =
    rw c.from_residual.ensures (items_read_fault _ _ _ _ _ _ _ _ c.loop-after.invariant _ c.in-Some.ensures _ c.in_err-here.ensures)

pub loop-after-preserved : goal.loop-after-preserved
loop-after-preserved c = items_read_more _ _ _ _ _ _ _ _ c.loop-after.invariant _ c.in-Some.ensures _ _ c.in_ok-here.ensures

pub returns : goal.returns
returns c = items_read_all _ _ _ _ _ _ _ _ c.loop-after.invariant c.in_default.ensures
