-- `place` is the start of its row and the way from there; that a start is small is `pairs_before_bound` of Places.
use native.Mathlib.Omega.{arith}
use Rattle.pairorder.specs.Order.{row_start}
use Rattle.pairorder.proofs.Places.{pairs_before_bound}
use Rattle.pairorder.proofs.order.place.Goals as goal

pub overflow_add-result : goal.overflow_add-result
unfolding row_start
overflow_add-result c = omega (arith, pairs_before_bound 64 c.args.x)
