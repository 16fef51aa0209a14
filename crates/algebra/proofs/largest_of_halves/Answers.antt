-- `largest_of_halves`: the largest of what is passed of each half, one byte more of each in every turn.
use Rattle.std.proofs.Common.{arith}
use Rattle.algebra.proofs.Maximum.{largest_more, back_more, largest_halves}
use Rattle.algebra.proofs.largest_of_halves.Goals as goal

pub loop-i-preserved : goal.loop-i-preserved
loop-i-preserved c = (search largest_more, back_more _ c.larger-back.ensures c.loop-i.invariant.1)

pub returns : goal.returns
returns c = search (largest_halves, arith)
