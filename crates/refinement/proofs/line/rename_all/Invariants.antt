-- `rename_all` meets its contract. The loop has named every element below x, and the rows have them.
use Rattle.equivalence.specs.Equivalence.{byte}
use Rattle.translation.specs.InnerLines.{line_at}
use Rattle.refinement.specs.InnerSplitting.{RowsSeen, Every}
use Rattle.refinement.proofs.Seeing.{Renaming}
use Rattle.refinement.proofs.line.rename_all.Given as goal

abbrev pub invariant-loop-x : goal.invariant-loop-x
invariant-loop-x l = RowsSeen (line_at l.round.cells.now l.line.base l.line.stride) (byte l.m) l.x l.seen × Renaming l.round.n (line_at l.round.cells.now l.line.base l.line.stride) (byte l.m) Every l.x l.next
