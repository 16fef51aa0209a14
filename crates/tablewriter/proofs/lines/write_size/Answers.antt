-- `lines::write_size` meets its contract, by the laws of Lining.
use Rattle.numberreader.specs.Reading.{ascii}
use Rattle.tablewriter.proofs.Lining.{size_word_fits, size_number_fits, size_close_fits, size_written}
use Rattle.tablewriter.proofs.lines.write_size.Goals as goal

pub write_word-word-requires : goal.write_word-word-requires
write_word-word-requires c = search size_word_fits

pub write_spaced_number-end-requires : goal.write_spaced_number-end-requires
unfolding ascii
write_spaced_number-end-requires c = search size_number_fits

pub write_close-requires : goal.write_close-requires
unfolding ascii
write_close-requires c = search size_close_fits

pub returns : goal.returns
unfolding ascii
returns c = search size_written
