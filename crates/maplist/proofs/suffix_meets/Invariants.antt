-- `suffix_meets`: the laws of `Suffixes` start, keep and end the loop.
use Rattle.maplist.proofs.Suffixes.{Suffixes}
use Rattle.maplist.proofs.suffix_meets.Given as goal

abbrev pub invariant-loop-i : goal.invariant-loop-i
invariant-loop-i l = Suffixes l.n l.count l.maps l.i l.met l.suffixes
