-- `first_held` meets its contract. The loop has found the foremost element below y (`Foremost`); at its end it gives the first pair held.
use Rattle.equivalence.specs.Equivalence.{byte}
use Rattle.pairorder.proofs.Foremost.{Foremost, moved}
use Rattle.pairorder.proofs.order.first_held.Given as goal

abbrev pub invariant-loop-y : goal.invariant-loop-y
invariant-loop-y l = Foremost (byte l.m) (moved l.m) l.y l.at
