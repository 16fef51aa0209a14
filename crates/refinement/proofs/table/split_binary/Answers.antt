-- `split_binary` meets its contract: the first argument varies, then the second.
use Rattle.refinement.proofs.Tables.{table_two}
use Rattle.refinement.proofs.Fronts.{lines_back}
use Rattle.refinement.proofs.table.split_binary.Goals as goal

pub returns : goal.returns
returns c = table_two c.split_rows-left.ensures (lines_back _ c.split_lines.ensures)
