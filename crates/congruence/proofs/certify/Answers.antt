-- `certify`: a test declines, or the four conditions are decided.
use Rattle.algebra.proofs.Tested.{tests_passed}
use Rattle.congruence.proofs.Serving.{of_certify_tests, certify_some, certify_declined, certify_decided}
use Rattle.congruence.proofs.certify.Goals as goal

pub returns-in_err-certify_check : goal.returns-in_err-certify_check
returns-in_err-certify_check c = search (certify_declined, c.in_err-certify_check.was)

pub nonzero_div-count : goal.nonzero_div-count
nonzero_div-count c = search (certify_some, c.in_ok-certify_check.was)

pub is_certified-requires : goal.is_certified-requires
is_certified-requires c =
    let t = of_certify_tests _ _ (tests_passed _ c.in_ok-certify_check.was c.certify_check.ensures) in
    record { accepted = t.0; maps_listed = t.1 }

pub returns : goal.returns
returns c = search (certify_decided, c.in_ok-certify_check.was)
