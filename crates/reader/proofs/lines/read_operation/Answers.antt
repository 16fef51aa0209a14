-- `lines::read_operation` meets its contract, by the laws of Defining.
use Rattle.equivalence.proofs.Refusals.{handed_on}
use Rattle.reader.proofs.Defining.{arity_faulty, operation_refused, operation_read}
use Rattle.reader.proofs.CellRoom.{room_for_table}
use Rattle.reader.proofs.lines.read_operation.Goals as goal

pub returns-in_default : goal.returns-in_default
returns-in_default c = arity_faulty _ _ _ _ _ _ c.in_default.ensures

pub returns-in_err-check_operation : goal.returns-in_err-check_operation
returns-in_err-check_operation c =
    rw (handed_on c.from_residual.ensures.1)
    (operation_refused _ _ _ _ _ _ c.requires.room_for_cells _ c.in-Some.ensures _ c.check_operation.ensures _ c.in_err-check_operation.was)

pub read_last_table-requires-clause-room_for : goal.read_last_table-requires-clause-room_for
read_last_table-requires-clause-room_for c =
    room_for_table _ _ _ _ _ _ c.requires.room_for_cells _ c.in-Some.ensures _ c.check_operation.ensures c.in_ok-check_operation.was

pub returns : goal.returns
returns c =
    operation_read _ _ _ _ _ _ c.requires.room_for_cells _ c.in-Some.ensures _ c.check_operation.ensures c.in_ok-check_operation.was _ _ c.read_last_table.ensures
