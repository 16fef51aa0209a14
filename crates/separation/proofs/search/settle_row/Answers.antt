-- `settle_row`: the pairs of the row before y are settled.
use native.Mathlib.Omega.{arith}
use Rattle.separation.proofs.Standings.{standing_skip_row, standing_row}
use Rattle.separation.proofs.search.settle_row.Goals as goal

pub returns-then-standing-x-clause-standing_2 : goal.returns-then-standing-x-clause-standing_2
returns-then-standing-x-clause-standing_2 c = search standing_skip_row

pub returns-clause-standing_2 : goal.returns-clause-standing_2
returns-clause-standing_2 c = standing_row c.loop-y.invariant.0 (omega (arith, c.loop-y.auto.y-end (omega arith)))
