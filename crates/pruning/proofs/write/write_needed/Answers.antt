-- `write_needed`: the laws of `NeededWritten` start, keep and end the loop.
use Rattle.pruning.proofs.Writing.{needed_written_none, needed_written_more, needed_written_all}
use Rattle.pruning.proofs.write.write_needed.Goals as goal

pub loop-i-init : goal.loop-i-init
loop-i-init c = search needed_written_none

pub loop-i-preserved : goal.loop-i-preserved
loop-i-preserved c = needed_written_more c.loop-i.invariant c.loop-i-test.true c.copy_from_slice.ensures.after

pub returns : goal.returns
returns c = needed_written_all c.loop-i.invariant c.loop-i-test.false
