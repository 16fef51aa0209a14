-- `numberreader::gap_end` meets its contract, by the laws of Readers.
use Rattle.numberreader.proofs.Readers.{gap_here, no_gap}
use Rattle.numberreader.proofs.gap_end.Goals as goal

pub returns-then-byte_at-ne32 : goal.returns-then-byte_at-ne32
returns-then-byte_at-ne32 c = search no_gap

pub returns : goal.returns
returns c = search gap_here
