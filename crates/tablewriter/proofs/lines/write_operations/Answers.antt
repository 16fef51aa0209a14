-- `lines::write_operations` meets its contract, by the laws of Lining.
use native.Mathlib.Omega.{arith}
use Rattle.tablewriter.proofs.Lining.{lines_none, arity_most, table_within, next_operation_fits, lines_more, lines_written}
use Rattle.tablewriter.proofs.lines.write_operations.Goals as goal

pub loop-arity-init : goal.loop-arity-init
loop-arity-init c = search lines_none

pub power-requires-clause-s_bound : goal.power-requires-clause-s_bound
power-requires-clause-s_bound c = search arity_most

pub overflow_add-to : goal.overflow_add-to
overflow_add-to c = omega (arith, table_within _ _ _ _ _ c.requires _ _ _ _ c.loop-arity.invariant (omega arith) _ c.power.ensures)

pub slice_bounds-write_operation-end : goal.slice_bounds-write_operation-end
slice_bounds-write_operation-end c = search table_within

pub write_operation-at-requires : goal.write_operation-at-requires
write_operation-at-requires c = search next_operation_fits

pub loop-arity-preserved : goal.loop-arity-preserved
loop-arity-preserved c = search lines_more

pub returns : goal.returns
returns c = search lines_written
