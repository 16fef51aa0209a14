-- `answers::write_written` meets its contract, by the laws of Answering.
use Rattle.answers.proofs.Answering.{line_of_done, line_of_write_refused}
use Rattle.answers.proofs.write_written.Goals as goal

pub returns-in-Ok : goal.returns-in-Ok
returns-in-Ok c = search line_of_done

pub returns-in-Err : goal.returns-in-Err
returns-in-Err c = search line_of_write_refused
