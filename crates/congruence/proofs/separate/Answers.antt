-- `separate`: a test declines, or the earliest congruence is written.
use Rattle.algebra.proofs.Tested.{tests_passed, granted}
use Rattle.congruence.specs.Calls.{separate_call}
use Rattle.congruence.proofs.Serving.{of_separate_tests, declined_on}
use Rattle.congruence.proofs.separate.Goals as goal

pub returns-in_err-separate_check : goal.returns-in_err-separate_check
unfolding separate_call
returns-in_err-separate_check c = search (declined_on, c.in_err-separate_check.was)

pub separated_into-requires : goal.separated_into-requires
separated_into-requires c =
    let t = of_separate_tests _ _ _ _ (tests_passed _ c.in_ok-separate_check.was c.separate_check.ensures) in
    record { accepted = t.0; v_lt_n = t.1.0; w_lt_n = t.1.1.0; fact = t.1.1.1.0; n_in_bounds = t.1.1.1.1 }

pub returns : goal.returns
unfolding separate_call
returns c = search (granted, c.in_ok-separate_check.was)
