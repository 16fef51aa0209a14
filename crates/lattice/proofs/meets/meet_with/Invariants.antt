-- `meet_with` meets its contract: the laws of `Meeting` start, keep and end the loop.
use Rattle.lattice.proofs.Meeting.{Meeting}
use Rattle.lattice.proofs.meets.meet_with.Given as goal

abbrev pub invariant-loop-x : goal.invariant-loop-x
invariant-loop-x l = Meeting l.n l.x l.initial.m l.b l.table l.m
