-- `lines::write_arity` meets its contract, by the laws of Lining.
use Rattle.numberreader.specs.Reading.{ascii}
use Rattle.tablewriter.proofs.Lining.{arity_gap_fits, arity_written}
use Rattle.tablewriter.proofs.lines.write_arity.Goals as goal

pub write_gap-requires : goal.write_gap-requires
unfolding ascii
write_gap-requires c = search arity_gap_fits

pub returns : goal.returns
unfolding ascii
returns c = search arity_written
