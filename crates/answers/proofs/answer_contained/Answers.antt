-- `answers::answer_contained` meets its contract, by the laws of Answering.
use Rattle.answers.proofs.Answering.{map_fits, contained_answered}
use Rattle.answers.proofs.answer_contained.Goals as goal

pub write_written-requires : goal.write_written-requires
write_written-requires c = search map_fits

pub returns : goal.returns
returns c = search contained_answered
