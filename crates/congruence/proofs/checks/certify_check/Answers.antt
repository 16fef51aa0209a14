-- `certify_check`: the tests in turn, by the laws of Testing.
use native.Mathlib.Nat.{div-mul-le_self}
use Rattle.congruence.proofs.Testing.{algebra_hands_on, tests-in-turn, passed_some}
use Rattle.congruence.proofs.checks.certify_check.Goals as goal

pub returns-in_err-check : goal.returns-in_err-check
returns-in_err-check c = search (algebra_hands_on, c.in_err-check.was)

pub nonzero_rem-maps : goal.nonzero_rem-maps
nonzero_rem-maps c = search (passed_some, c.in_ok-check.was)

pub returns-then-maps-n-ne0 : goal.returns-then-maps-n-ne0
returns-then-maps-n-ne0 c = search (tests-in-turn, c.in_ok-check.was)

pub nonzero_div-count : goal.nonzero_div-count
nonzero_div-count c = search (passed_some, c.in_ok-check.was)

pub returns-then-count-gt-MAX_MAPS : goal.returns-then-count-gt-MAX_MAPS
returns-then-count-gt-MAX_MAPS c = search (tests-in-turn, c.in_ok-check.was)

pub all_maps-requires : goal.all_maps-requires
all_maps-requires c = search div-mul-le_self

pub returns-then-not-all_maps : goal.returns-then-not-all_maps
returns-then-not-all_maps c = search (tests-in-turn, c.in_ok-check.was)

pub returns : goal.returns
returns c = search (tests-in-turn, c.in_ok-check.was)
