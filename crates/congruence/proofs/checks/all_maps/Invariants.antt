-- `all_maps`: the laws of `Turns` start, keep and end the loop.
use Rattle.equivalence.specs.Equivalence.{is_map}
use Rattle.certification.proofs.Turns.{Turns}
use Rattle.congruence.proofs.checks.all_maps.Given as goal

abbrev pub invariant-loop-i : goal.invariant-loop-i
invariant-loop-i l = Turns (is_map l.n) l.n l.count l.maps l.i
