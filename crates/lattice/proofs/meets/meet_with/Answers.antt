-- `meet_with` meets its contract: the laws of `Meeting` start, keep and end the loop.
use Rattle.lattice.proofs.Meeting.{meeting_more, meeting_all}
use Rattle.lattice.proofs.meets.meet_with.Goals as goal

pub loop-x-preserved : goal.loop-x-preserved
loop-x-preserved c = search meeting_more

pub returns : goal.returns
returns c = search meeting_all
