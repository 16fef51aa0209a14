-- `steps::request_step` meets its contract, by the laws of Stepping.
use Rattle.bracket.proofs.Stepping.{room_for_refusal, room_for_answer, room_for_request, request_faulty, request_answered, fault_keeps, request_keeps}
use Rattle.bracket.proofs.steps.request_step.Goals as goal

pub read_request-requires : goal.read_request-requires
read_request-requires c = search room_for_request

pub refused-requires : goal.refused-requires
refused-requires c = search room_for_refusal

pub returns-in_default-clause-step_in : goal.returns-in_default-clause-step_in
returns-in_default-clause-step_in c = let f = c.in_default.ensures in search request_faulty

pub returns-in_default-clause-kept : goal.returns-in_default-clause-kept
returns-in_default-clause-kept c = let f = c.in_default.ensures in search fault_keeps

pub answer-wrote-requires : goal.answer-wrote-requires
answer-wrote-requires c = search room_for_answer

pub returns-clause-step_in : goal.returns-clause-step_in
returns-clause-step_in c = let l = c.in-Some.ensures in search request_answered

pub returns-clause-kept : goal.returns-clause-kept
returns-clause-kept c = let l = c.in-Some.ensures in search request_keeps
