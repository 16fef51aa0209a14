-- `answers::write_decompose` meets its contract, by the laws of Answering.
use Rattle.answers.proofs.Answering.{factors_room, line_of_factors, line_of_irreducible, line_of_decompose_refused}
use Rattle.answers.proofs.write_decompose.Goals as goal

pub write_factors-requires : goal.write_factors-requires
write_factors-requires c = search (factors_room, c.in-Ok-Factors.is, c.in-Ok-Factors.field-0-is)

pub returns-in-Ok-Factors : goal.returns-in-Ok-Factors
returns-in-Ok-Factors c = search (line_of_factors, c.in-Ok-Factors.is, c.in-Ok-Factors.field-0-is)

pub returns-in-Ok-Irreducible : goal.returns-in-Ok-Irreducible
returns-in-Ok-Irreducible c = search (line_of_irreducible, c.in-Ok-Irreducible.is, c.in-Ok-Irreducible.field-0-is)

pub returns-in-Err : goal.returns-in-Err
returns-in-Err c = search line_of_decompose_refused
