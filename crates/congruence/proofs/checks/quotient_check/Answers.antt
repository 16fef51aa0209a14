-- `quotient_check`: the tests in turn, by the laws of Testing.
use Rattle.algebra.proofs.Tested.{passed_accepted}
use Rattle.congruence.proofs.Testing.{algebra_hands_on, tests-in-turn, passed_most, passed_operations, passed_arity, flag_map, flag_long}
use Rattle.congruence.proofs.checks.quotient_check.Goals as goal

pub returns-in_err-check : goal.returns-in_err-check
returns-in_err-check c = search (algebra_hands_on, c.in_err-check.was)

pub returns-then-not-is_map : goal.returns-then-not-is_map
returns-then-not-is_map c = search (tests-in-turn, c.in_ok-check.was)

pub quotient_cells-requires : goal.quotient_cells-requires
quotient_cells-requires c = search (passed_most, passed_operations, passed_arity, flag_long, c.in_ok-check.was)

pub returns-then-room-quotient_cells : goal.returns-then-room-quotient_cells
returns-then-room-quotient_cells c = search (tests-in-turn, c.in_ok-check.was)

pub is_congruence-requires : goal.is_congruence-requires
is_congruence-requires c = search (passed_accepted, flag_map, c.in_ok-check.was)

pub returns-then-not-is_congruence : goal.returns-then-not-is_congruence
returns-then-not-is_congruence c = search (tests-in-turn, c.in_ok-check.was)

pub returns : goal.returns
returns c = search (tests-in-turn, c.in_ok-check.was)
