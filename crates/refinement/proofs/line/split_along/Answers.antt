-- `split_along` meets its contract. The loop has split along the line, and it breaks at the element at k.
use Rattle.refinement.proofs.Splits.{along_more, along_done}
use Rattle.refinement.proofs.line.split_along.Goals as goal

pub returns-then-not-round : goal.returns-then-not-round
returns-then-not-round c = search along_done

pub loop-line-preserved : goal.loop-line-preserved
loop-line-preserved c = along_more c.loop-line.invariant c.split_at.ensures c.in-Some.ensures

pub returns-in-None : goal.returns-in-None
returns-in-None c = search along_done
