-- `is_not_later` meets its contract. The loop has found the foremost element below y on which the two differ (`Foremost`); at its end it tells the earlier.
use Rattle.pairorder.proofs.Foremost.{Foremost, smaller, differ}
use Rattle.pairorder.proofs.order.is_not_later.Given as goal

abbrev pub invariant-loop-y : goal.invariant-loop-y
invariant-loop-y l = Foremost (smaller l.a l.b) (differ l.a l.b) l.y l.at
