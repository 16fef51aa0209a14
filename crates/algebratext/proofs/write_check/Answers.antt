-- `write_check`: the algebra's tests, then 9, by the laws of Writing.
use Rattle.equivalence.proofs.Refusals.{handed_on}
use Rattle.algebra.proofs.Tested.{algebra_declines}
use Rattle.algebratext.proofs.Writing.{text_measurable, text_too_long, text_short_enough}
use Rattle.algebratext.proofs.write_check.Goals as goal

pub returns-in_err-check : goal.returns-in_err-check
returns-in_err-check c = rw (handed_on c.from_residual.ensures.1) (algebra_declines _ _ _ c.in_err-check.was c.check.ensures)

pub text_length-requires : goal.text_length-requires
text_length-requires c = search (text_measurable, c.in_ok-check.was)

pub returns-then-room-text_length : goal.returns-then-room-text_length
returns-then-room-text_length c = search (text_too_long, c.in_ok-check.was)

pub returns : goal.returns
returns c = search (text_short_enough, c.in_ok-check.was)
