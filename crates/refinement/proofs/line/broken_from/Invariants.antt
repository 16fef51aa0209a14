-- `broken_from` meets its contract. The loop has passed the elements before i.
use lib.ListN.{length}
use Rattle.equivalence.specs.Equivalence.{byte}
use Rattle.translation.specs.InnerLines.{line_at}
use Rattle.refinement.proofs.Splits.{Passed}
use Rattle.refinement.proofs.line.broken_from.Given as goal

abbrev pub invariant-loop-i : goal.invariant-loop-i
invariant-loop-i l = Passed (line_at l.round.cells.now l.line.base l.line.stride) (byte l.m) l.list (length l.list) l.start l.i
