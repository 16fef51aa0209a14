-- `meets_in_identity`: the laws of `Alone` start, keep and end the loop.
use Rattle.maplist.proofs.Collisions.{alone_more, alone_not, alone_all}
use Rattle.maplist.proofs.meets_in_identity.Goals as goal

pub returns-then-first-x : goal.returns-then-first-x
returns-then-first-x c = search alone_not

pub loop-x-preserved : goal.loop-x-preserved
loop-x-preserved c = search alone_more

pub returns : goal.returns
returns c = search alone_all
