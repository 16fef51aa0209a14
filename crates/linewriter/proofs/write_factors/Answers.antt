-- `write_factors` meets its contract, by the laws of Spacing.
use Rattle.writer.proofs.Spacing.{line_written}
use Rattle.numberreader.specs.Reading.{ascii}
use Rattle.linewriter.proofs.write_factors.Goals as goal

pub returns : goal.returns
unfolding ascii
returns c = search line_written
