-- `join_kept`: the laws of `Closings` start, keep and end the loop.
use Rattle.keeping.proofs.Closings.{joined_more}
use Rattle.keeping.proofs.join.join_kept.Goals as goal

pub loop-z-preserved : goal.loop-z-preserved
loop-z-preserved c = search joined_more
