-- `row_start` counts the pairs in the rows before x: `pairs_before_formula` of Places, for 64.
use native.Mathlib.Omega.{arith}
use Rattle.pairorder.specs.Order.{row_start}
use Rattle.pairorder.proofs.Places.{pairs_before_formula}
use Rattle.pairorder.proofs.order.row_start.Goals as goal

pub returns : goal.returns
unfolding row_start
returns c = pairs_before_formula 64 c.args.x (omega arith)
