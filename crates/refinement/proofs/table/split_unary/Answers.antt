-- `split_unary` meets its contract: the line begins at `base`.
use Rattle.refinement.proofs.Tables.{table_one}
use Rattle.refinement.proofs.table.split_unary.Goals as goal

pub returns : goal.returns
returns c = search table_one
