-- `write_refused` meets its contract, by the laws of Spacing.
use Rattle.numberreader.specs.Reading.{ascii}
use Rattle.writer.proofs.Spacing.{refused_written}
use Rattle.linewriter.proofs.write_refused.Goals as goal

pub returns : goal.returns
unfolding ascii
returns c = search refused_written
