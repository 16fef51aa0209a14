-- `write_byte` meets its contract, by the laws of Laying.
use Rattle.tablereader.proofs.Laying.{laid_one}
use Rattle.writer.proofs.write_byte.Goals as goal

pub returns : goal.returns
returns c = search laid_one
