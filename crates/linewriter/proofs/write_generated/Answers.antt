-- `write_generated` meets its contract, by the laws of Spacing.
use Rattle.writer.proofs.Spacing.{two_parts_written}
use Rattle.numberreader.specs.Reading.{ascii}
use Rattle.linewriter.proofs.write_generated.Goals as goal

pub returns : goal.returns
unfolding ascii
returns c = search two_parts_written
