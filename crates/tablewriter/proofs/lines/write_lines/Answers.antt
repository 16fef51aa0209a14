-- `lines::write_lines` meets its contract, by the laws of Lining.
use Rattle.tablewriter.proofs.Lining.{size_line_fits, operations_fit, text_written}
use Rattle.tablewriter.proofs.lines.write_lines.Goals as goal

pub write_size-end-requires : goal.write_size-end-requires
write_size-end-requires c = search size_line_fits

pub write_operations-requires : goal.write_operations-requires
write_operations-requires c = search operations_fit

pub returns : goal.returns
returns c = search text_written
