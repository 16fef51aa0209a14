-- `lengths::frame` meets its contract, by the laws of Counting.
use Rattle.tablewriter.proofs.Counting.{Framed}
use Rattle.tablewriter.proofs.lengths.frame.Given as goal

abbrev pub invariant-loop-s : goal.invariant-loop-s
invariant-loop-s l = Framed l.n l.sum l._s
