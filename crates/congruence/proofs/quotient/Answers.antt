-- `quotient`: a test declines, or the tables over blocks are written.
use Rattle.algebra.proofs.Tested.{tests_passed, granted}
use Rattle.congruence.specs.Calls.{quotient_call}
use Rattle.congruence.proofs.Serving.{of_quotient_tests, declined_on}
use Rattle.congruence.proofs.quotient.Goals as goal

pub returns-in_err-quotient_check : goal.returns-in_err-quotient_check
unfolding quotient_call
returns-in_err-quotient_check c = search (declined_on, c.in_err-quotient_check.was)

pub divide-requires : goal.divide-requires
divide-requires c =
    let t = of_quotient_tests _ _ _ (tests_passed _ c.in_ok-quotient_check.was c.quotient_check.ensures) in
    record { accepted = t.1.0; t = t.1.1.0; arities_in_bounds = t.1.1.1 }

pub returns : goal.returns
unfolding quotient_call
returns c = search (granted, c.in_ok-quotient_check.was)
