-- `split_lines` meets its contract. The loop has split along the lines of the first i elements in use.
use Rattle.refinement.proofs.Walks.{lining_more}
use Rattle.refinement.proofs.Fronts.{chosen_back}
use Rattle.refinement.proofs.plane.split_lines.Goals as goal

pub loop-r-preserved : goal.loop-r-preserved
loop-r-preserved c = lining_more c.loop-r.invariant c.loop-r-test.true (chosen_back _ c.loop-r.invariant.walked.walk.lists.elements.room c.split_chosen-left.ensures)
