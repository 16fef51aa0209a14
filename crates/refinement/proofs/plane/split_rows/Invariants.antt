-- `split_rows` meets its contract. The loop has split along the lines that took one of the first i others from its smallest member.
use lib.ListN.{length}
use Rattle.refinement.proofs.Walks.{Rowing}
use Rattle.refinement.proofs.plane.split_rows.Given as goal

abbrev pub invariant-loop-x : goal.invariant-loop-x
invariant-loop-x l = Rowing l.round.n l.round.live.now (length l.round.live.now) l.round.cells.now l.line.base l.line.stride l.x-items (length l.x-items) l.x-index l.initial.m l.m
