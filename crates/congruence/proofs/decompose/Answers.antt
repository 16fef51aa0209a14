-- `decompose`: a test of the algebra declines, or the answer and the bytes are what was found.
use Rattle.algebra.proofs.Tested.{passed_accepted}
use Rattle.congruence.proofs.Decomposing.{decompose_declined, decompose_found}
use Rattle.congruence.proofs.decompose.Goals as goal

pub returns-in_err-check : goal.returns-in_err-check
returns-in_err-check c = search (decompose_declined, c.in_err-check.was)

pub factors-requires : goal.factors-requires
factors-requires c = search (passed_accepted, c.in_ok-check.was)

pub returns : goal.returns
returns c = search (decompose_found, c.in_ok-check.was)
