-- `split_rows` meets its contract. The loop has split along the lines that took one of the first i others from its smallest member.
use Rattle.refinement.proofs.Walks.{rowing_more, rowing_done}
use Rattle.refinement.proofs.plane.split_rows.Goals as goal

pub loop-x-preserved : goal.loop-x-preserved
loop-x-preserved c = search rowing_more

pub returns : goal.returns
returns c = search rowing_done
