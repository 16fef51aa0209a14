-- `write_close` meets its contract.
use Rattle.numberreader.specs.Reading.{ascii}
use Rattle.writer.proofs.write_close.Goals as goal

pub returns : goal.returns
unfolding ascii
returns c = c.write_word.ensures
