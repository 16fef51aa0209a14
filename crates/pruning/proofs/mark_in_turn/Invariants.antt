-- `mark_in_turn`: the laws of `Pruning` start, keep and end the loop.
use Rattle.pruning.proofs.Pruning.{Pruning}
use Rattle.pruning.proofs.mark_in_turn.Given as goal

abbrev pub invariant-loop-i : goal.invariant-loop-i
invariant-loop-i l = Pruning l.n l.count l.maps l.suffixes l.kept l.i l.met l.needed
