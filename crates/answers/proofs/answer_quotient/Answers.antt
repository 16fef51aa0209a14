-- `answers::answer_quotient` meets its contract, by the laws of Dividing.
use Rattle.answers.proofs.Dividing.{quotient_fits, quotient_answered}
use Rattle.answers.proofs.answer_quotient.Goals as goal

pub write_quotient-requires : goal.write_quotient-requires
write_quotient-requires c = search quotient_fits

pub returns : goal.returns
returns c = search quotient_answered
