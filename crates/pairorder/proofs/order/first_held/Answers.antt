-- `first_held` meets its contract. The loop has found the foremost element below y (`Foremost`); at its end it gives the first pair held.
use Rattle.std.proofs.Common.{arith}
use Rattle.pairorder.proofs.Foremost.{foremost_more, foremost_all, held_end}
use Rattle.pairorder.proofs.order.first_held.Goals as goal

pub loop-y-preserved : goal.loop-y-preserved
loop-y-preserved c = rw c.foremost_of-at.ensures (foremost_more _ _ c.loop-y.y c.loop-y.at c.loop-y.invariant)

pub returns : goal.returns
returns c = held_end _ _ c.requires.le_n c.requires.canonical _ (foremost_all (omega arith) (omega arith) c.loop-y.invariant)
