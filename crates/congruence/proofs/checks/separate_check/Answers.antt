-- `separate_check`: the tests in turn, by the laws of Testing.
use Rattle.congruence.proofs.Testing.{algebra_hands_on, tests-in-turn}
use Rattle.congruence.proofs.checks.separate_check.Goals as goal

pub returns-in_err-check : goal.returns-in_err-check
returns-in_err-check c = search (algebra_hands_on, c.in_err-check.was)

pub returns-then-n-v : goal.returns-then-n-v
returns-then-n-v c = search (tests-in-turn, c.in_ok-check.was)

pub returns-then-n-w : goal.returns-then-n-w
returns-then-n-w c = search (tests-in-turn, c.in_ok-check.was)

pub returns-then-room-n : goal.returns-then-room-n
returns-then-room-n c = search (tests-in-turn, c.in_ok-check.was)

pub returns-then-v-w : goal.returns-then-v-w
returns-then-v-w c = search (tests-in-turn, c.in_ok-check.was)

pub returns : goal.returns
returns c = search (tests-in-turn, c.in_ok-check.was)
