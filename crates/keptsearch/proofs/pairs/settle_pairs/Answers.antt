-- `settle_pairs`: the pairs of the row before y are settled.
use native.Mathlib.Omega.{arith}
use Rattle.keptsearch.proofs.Joining.{pairs_end}
use Rattle.keptsearch.proofs.pairs.settle_pairs.Goals as goal

pub returns-clause-kept_standing_2 : goal.returns-clause-kept_standing_2
returns-clause-kept_standing_2 c = pairs_end c.loop-y.invariant.1 (c.loop-y.auto.y-end (omega arith)) (omega arith)
