-- `refine_by` meets its contract. The loop has split the map so that no congruence inside it is lost.
use Rattle.refinement.proofs.Refinements.{refining_first, refining_whole, refining_none, refining_still, refining_more, refining_less}
use Rattle.refinement.proofs.Sifting.{turned_back}
use Rattle.refinement.proofs.Fronts.{walk_back, all_back}
use Rattle.refinement.proofs.refine_by.Goals as goal

pub returns-then-count-eq1 : goal.returns-then-count-eq1
returns-then-count-eq1 c = search refining_whole

pub loop-left-init : goal.loop-left-init
loop-left-init c = search refining_first

pub returns-then-found-count : goal.returns-then-found-count
returns-then-found-count c = refining_still c.loop-left.invariant c.split_all-left.ensures c.block_count-found.ensures c.if-found-count.true

pub loop-left-smaller : goal.loop-left-smaller
loop-left-smaller c = refining_less c.loop-left.invariant c.split_all-left.ensures c.block_count-found.ensures c.if-found-count.false

pub loop-left-preserved : goal.loop-left-preserved
loop-left-preserved c = refining_more c.loop-left.invariant (all_back _ c.split_all-left.ensures) c.block_count-found.ensures
    (turned_back _ _ (walk_back _ c.split_all-left.ensures.walked.walk).lists.elements.room c.reverse.ensures.after)

pub returns : goal.returns
returns c = search refining_none
