-- `answers::answer_decompose` meets its contract, by the laws of Answering.
use Rattle.answers.proofs.Answering.{factors_fit, decompose_answered}
use Rattle.answers.proofs.answer_decompose.Goals as goal

pub write_decompose-requires : goal.write_decompose-requires
write_decompose-requires c = search factors_fit

pub returns : goal.returns
returns c = search decompose_answered
