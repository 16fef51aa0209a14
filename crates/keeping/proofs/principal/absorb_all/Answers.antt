-- `absorb_all`: the laws of `Closings` start, keep and end the loop.
use Rattle.keeping.proofs.Closings.{working_more, worked_all}
use Rattle.keeping.proofs.principal.absorb_all.Goals as goal

pub loop-merging-preserved : goal.loop-merging-preserved
loop-merging-preserved c = search working_more

pub returns : goal.returns
returns c = search worked_all
