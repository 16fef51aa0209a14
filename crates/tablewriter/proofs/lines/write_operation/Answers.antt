-- `lines::write_operation` meets its contract, by the laws of Lining.
use Rattle.tablewriter.proofs.Lining.{operation_arity_fits, operation_table_fits, operation_close_fits, operation_written}
use Rattle.tablewriter.proofs.lines.write_operation.Goals as goal

pub write_arity-table-requires-clause-put_in_bounds : goal.write_arity-table-requires-clause-put_in_bounds
write_arity-table-requires-clause-put_in_bounds c = search operation_arity_fits

pub write_table-end-requires : goal.write_table-end-requires
write_table-end-requires c = search operation_table_fits

pub write_close-requires : goal.write_close-requires
write_close-requires c = search operation_close_fits

pub returns : goal.returns
returns c = search operation_written
