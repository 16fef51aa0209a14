-- `generate_check`: the tests in turn, by the laws of Testing.
use Rattle.congruence.proofs.Testing.{algebra_hands_on, tests-in-turn}
use Rattle.congruence.proofs.checks.generate_check.Goals as goal

pub returns-in_err-check : goal.returns-in_err-check
returns-in_err-check c = search (algebra_hands_on, c.in_err-check.was)

pub returns-then-pairs-ne0 : goal.returns-then-pairs-ne0
returns-then-pairs-ne0 c = search (tests-in-turn, c.in_ok-check.was)

pub returns-then-not-all_below : goal.returns-then-not-all_below
returns-then-not-all_below c = search (tests-in-turn, c.in_ok-check.was)

pub returns-then-room-n : goal.returns-then-room-n
returns-then-room-n c = search (tests-in-turn, c.in_ok-check.was)

pub returns : goal.returns
returns c = search (tests-in-turn, c.in_ok-check.was)
