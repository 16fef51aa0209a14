-- `answers::write_quotient` meets its contract, by the laws of Dividing.
use Rattle.answers.proofs.Dividing.{blocks_fit, lines_of_blocks, line_of_divide_refused}
use Rattle.answers.proofs.write_quotient.Goals as goal

pub write_lines-requires : goal.write_lines-requires
write_lines-requires c = search blocks_fit

pub returns-in-Ok : goal.returns-in-Ok
returns-in-Ok c = search lines_of_blocks

pub returns-in-Err : goal.returns-in-Err
returns-in-Err c = search line_of_divide_refused
