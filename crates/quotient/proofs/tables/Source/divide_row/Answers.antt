-- `quotient::tables::Source::divide_row` meets its contract. The invariant: the cells of k blocks are laid.
use Rattle.std.proofs.Common.{arith}
use Rattle.quotient.proofs.Walks.{row_start_lem, row_more}
use Rattle.quotient.proofs.tables.Source.divide_row.Goals as goal

pub loop-k-init : goal.loop-k-init
loop-k-init c = row_start_lem c.requires (omega arith)

pub loop-k-preserved : goal.loop-k-preserved
loop-k-preserved c = row_more c.loop-k.invariant _ c.loop-k-test.true c.divide_cell.ensures (omega arith)
