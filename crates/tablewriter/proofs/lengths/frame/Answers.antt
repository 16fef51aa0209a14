-- `lengths::frame` meets its contract, by the laws of Counting.
use native.Mathlib.Omega.{arith}
use Rattle.tablewriter.proofs.Counting.{framed_none, framed_more, framed_all}
use Rattle.tablewriter.proofs.lengths.frame.Goals as goal

pub loop-s-init : goal.loop-s-init
loop-s-init c = search framed_none

pub loop-s-preserved : goal.loop-s-preserved
loop-s-preserved c = framed_more _ (omega arith) _ _ c.loop-s.invariant (omega arith)

pub returns : goal.returns
returns c = search framed_all
