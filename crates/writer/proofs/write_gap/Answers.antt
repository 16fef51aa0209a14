-- `write_gap` meets its contract: the gap is one byte.
use Rattle.numberreader.specs.Reading.{ascii}
use Rattle.writer.specs.Lines.{gap_bytes}
use Rattle.writer.proofs.write_gap.Goals as goal

pub returns-clause-laid : goal.returns-clause-laid
unfolding gap_bytes ascii
returns-clause-laid c = c.write_byte.ensures
