-- `is_not_later` meets its contract. The loop has found the foremost element below y on which the two differ (`Foremost`); at its end it tells the earlier.
use Rattle.std.proofs.Common.{arith}
use Rattle.pairorder.proofs.Foremost.{foremost_more, foremost_all, differ_end}
use Rattle.pairorder.proofs.order.is_not_later.Goals as goal

pub loop-y-preserved : goal.loop-y-preserved
loop-y-preserved c =
    rw (c.foremost_of-at.ensures, c.min-in-loop-y.ensures, c.min.ensures) (foremost_more _ _ c.loop-y.y c.loop-y.at c.loop-y.invariant)

pub returns : goal.returns
returns c = differ_end _ _ _ c.requires.le_n c.requires.canonical c.requires.canonical_2 _ (foremost_all (omega arith) (omega arith) c.loop-y.invariant)
