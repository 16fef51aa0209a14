-- `generate`: a test declines, or the least congruence is written, with its merges.
use Rattle.algebra.proofs.Tested.{tests_passed, granted}
use Rattle.congruence.specs.Calls.{generate_call}
use Rattle.congruence.proofs.Serving.{of_generate_tests, declined_on}
use Rattle.congruence.proofs.generate.Goals as goal

pub returns-in_err-generate_check : goal.returns-in_err-generate_check
unfolding generate_call
returns-in_err-generate_check c = search (declined_on, c.in_err-generate_check.was)

pub generated_into-requires : goal.generated_into-requires
generated_into-requires c =
    let t = of_generate_tests _ _ _ (tests_passed _ c.in_ok-generate_check.was c.generate_check.ensures) in
    record { accepted = t.0; by_index = t.1.0; n_in_bounds = t.1.1 }

pub returns : goal.returns
unfolding generate_call
returns c = search (granted, c.in_ok-generate_check.was)
