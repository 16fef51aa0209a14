-- `answers::answer_separate` meets its contract, by the laws of Answering.
use Rattle.answers.proofs.Answering.{map_fits, separate_answered}
use Rattle.answers.proofs.answer_separate.Goals as goal

pub write_written-requires : goal.write_written-requires
write_written-requires c = search map_fits

pub returns : goal.returns
returns c = search separate_answered
