-- `steps::next_step` meets its contract, by the laws of Stepping.
use Rattle.numberreader.specs.Reading.{ascii}
use Rattle.bracket.proofs.Stepping.{room_for_refusal, step_first, step_requested, step_operation, step_request, first_keeps, operation_room}
use Rattle.bracket.proofs.steps.next_step.Goals as goal

pub first_step-requires : goal.first_step-requires
first_step-requires c = search room_for_refusal

pub returns-then-standing-eq0-clause-due_in : goal.returns-then-standing-eq0-clause-due_in
returns-then-standing-eq0-clause-due_in c = search step_first

pub returns-then-standing-eq0-clause-kept : goal.returns-then-standing-eq0-clause-kept
returns-then-standing-eq0-clause-kept c = search first_keeps

pub returns-then-standing-clause-due_in : goal.returns-then-standing-clause-due_in
unfolding ascii
returns-then-standing-clause-due_in c = search step_requested

pub operation_step-requires-clause-at_in_bounds : goal.operation_step-requires-clause-at_in_bounds
unfolding ascii
operation_step-requires-clause-at_in_bounds c = search operation_room

pub returns-then-begins_with-clause-due_in : goal.returns-then-begins_with-clause-due_in
unfolding ascii
returns-then-begins_with-clause-due_in c = search step_operation

pub returns-clause-due_in : goal.returns-clause-due_in
unfolding ascii
returns-clause-due_in c = search step_request
