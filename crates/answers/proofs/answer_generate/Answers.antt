-- `answers::answer_generate` meets its contract, by the laws of Answering.
use Rattle.answers.proofs.Answering.{map_fits, generate_answered}
use Rattle.answers.proofs.answer_generate.Goals as goal

pub write_generate-requires : goal.write_generate-requires
write_generate-requires c = search map_fits

pub returns : goal.returns
returns c = search generate_answered
