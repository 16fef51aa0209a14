-- `split_ternary` meets its contract: the first argument varies, then the second, then the third.
use Rattle.refinement.proofs.Tables.{table_three}
use Rattle.refinement.proofs.Fronts.{planes_back}
use Rattle.refinement.proofs.table.split_ternary.Goals as goal

pub returns : goal.returns
returns c = table_three c.split_planes-first.ensures c.split_planes-second.ensures (planes_back _ c.split_planes.ensures)
