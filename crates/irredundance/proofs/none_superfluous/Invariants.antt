-- `none_superfluous`: the laws of `Needed` start, keep and end the loop.
use Rattle.irredundance.proofs.Superfluous.{Needed}
use Rattle.irredundance.proofs.none_superfluous.Given as goal

abbrev pub invariant-loop-i : goal.invariant-loop-i
invariant-loop-i l = Needed l.n l.count l.maps l.suffixes l.i l.met
