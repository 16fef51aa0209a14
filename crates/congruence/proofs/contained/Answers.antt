-- `contained`: a test declines, or the greatest congruence is written.
use Rattle.algebra.proofs.Tested.{tests_passed, granted}
use Rattle.congruence.specs.Calls.{contained_call}
use Rattle.congruence.proofs.Serving.{of_contained_tests, declined_on}
use Rattle.congruence.proofs.contained.Goals as goal

pub returns-in_err-contained_check : goal.returns-in_err-contained_check
unfolding contained_call
returns-in_err-contained_check c = search (declined_on, c.in_err-contained_check.was)

pub contained_into-requires : goal.contained_into-requires
contained_into-requires c =
    let t = of_contained_tests _ _ _ (tests_passed _ c.in_ok-contained_check.was c.contained_check.ensures) in
    record { accepted = t.0; t = t.1.0; n_in_bounds = t.1.1 }

pub returns : goal.returns
unfolding contained_call
returns c = search (granted, c.in_ok-contained_check.was)
