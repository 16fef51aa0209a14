-- `write_mixed` meets its contract: its table has the digits that it should.
use Rattle.numberreader.specs.Reading.{ascii}
use Rattle.writer.proofs.DigitTable.{digit_table}
use Rattle.writer.proofs.write_mixed.Goals as goal

pub write_by_table-requires-clause-digit_table : goal.write_by_table-requires-clause-digit_table
unfolding ascii
write_by_table-requires-clause-digit_table c = digit_table
