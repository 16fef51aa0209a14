-- `rename_block` meets its contract. The loop has named every element below x.
use Rattle.equivalence.specs.Equivalence.{byte}
use Rattle.translation.specs.InnerLines.{line_at}
use Rattle.refinement.specs.InnerSplitting.{FirstsSeen, row_at, Only}
use Rattle.refinement.proofs.Seeing.{Renaming}
use Rattle.refinement.proofs.line.rename_block.Given as goal

abbrev pub invariant-loop-x : goal.invariant-loop-x
invariant-loop-x l = FirstsSeen (line_at l.round.cells.now l.line.base l.line.stride) (byte l.m) l.name l.x (row_at l.seen 0) × Renaming l.round.n (line_at l.round.cells.now l.line.base l.line.stride) (byte l.m) (Only l.name) l.x l.next
