-- `meets_in_identity`: the laws of `Alone` start, keep and end the loop.
use Rattle.maplist.proofs.Collisions.{Alone}
use Rattle.maplist.proofs.meets_in_identity.Given as goal

abbrev pub invariant-loop-x : goal.invariant-loop-x
invariant-loop-x l = Alone l.n l.x l.a l.b l.table
