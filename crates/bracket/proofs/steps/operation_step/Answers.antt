-- `steps::operation_step` meets its contract, by the laws of Stepping.
use Rattle.bracket.proofs.Stepping.{room_for_refusal, room_for_operation, operation_stepped, operation_keeps}
use Rattle.bracket.proofs.steps.operation_step.Goals as goal

pub take_operation_line-line-requires-clause-room_for_cells : goal.take_operation_line-line-requires-clause-room_for_cells
take_operation_line-line-requires-clause-room_for_cells c = search room_for_operation

pub after_line-requires : goal.after_line-requires
after_line-requires c = search room_for_refusal

pub returns-clause-step_in : goal.returns-clause-step_in
returns-clause-step_in c = operation_stepped _ _ _ _ _ _ _ _ _ _ c.take_operation_line-line.ensures c.after_line.ensures c.requires.sound

pub returns-clause-kept : goal.returns-clause-kept
returns-clause-kept c = operation_keeps _ _ _ _ _ _ _ _ _ _ c.take_operation_line-line.ensures c.after_line.ensures
