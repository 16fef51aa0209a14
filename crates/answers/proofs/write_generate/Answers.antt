-- `answers::write_generate` meets its contract, by the laws of Answering.
use Rattle.answers.proofs.Answering.{line_of_merges, line_of_generate_refused}
use Rattle.answers.proofs.write_generate.Goals as goal

pub returns-in-Ok : goal.returns-in-Ok
returns-in-Ok c = search line_of_merges

pub returns-in-Err : goal.returns-in-Err
returns-in-Err c = search line_of_generate_refused
