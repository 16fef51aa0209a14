-- `lines::read_close` meets its contract, by the laws of SpacedNumbers.
use Rattle.numberreader.specs.Reading.{ascii}
use Rattle.reader.proofs.SpacedNumbers.{close_missing, close_here}
use Rattle.reader.proofs.lines.read_close.Goals as goal

pub returns-then-not-begins_with : goal.returns-then-not-begins_with
unfolding ascii
returns-then-not-begins_with c = search close_missing

pub returns : goal.returns
unfolding ascii
returns c = search close_here
