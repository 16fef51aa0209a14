-- `benchtests::handed_check` meets its contract, by the laws of Testing: one for each return.
use mathlib.Core.Path.{sym, ◌∙◌}
use Rattle.algebra.specs.Accepted.{Accepted}
use Rattle.algebra.proofs.Accepted.{accepted_well_formed}
use Rattle.benchtests.specs.Tests.{handed_tests}
use Rattle.benchtests.proofs.Testing.{behind_failed, behind_passed}
use Rattle.benchtests.proofs.handed_check.Goals as goal

pub place_check-requires : goal.place_check-requires
unfolding Accepted
place_check-requires c = (accepted_well_formed _ (sym c.check.ensures ∙ c.in_ok-check.was)).most

pub returns-in_err-check : goal.returns-in_err-check
unfolding handed_tests
returns-in_err-check c = search (behind_failed, c.in_err-check.was)

pub returns : goal.returns
unfolding handed_tests
returns c = search (behind_passed, c.in_ok-check.was)
