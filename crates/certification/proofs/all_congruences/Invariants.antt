-- `all_congruences`: the laws of `Turns` start, keep and end the loop.
use mathlib.Core.Bool.{◌&&◌}
use Rattle.equivalence.specs.Equivalence.{is_map}
use Rattle.algebra.specs.Algebra.{algebra_of}
use Rattle.algebra.specs.Congruence.{is_congruence}
use Rattle.certification.proofs.Turns.{Turns}
use Rattle.certification.proofs.all_congruences.Given as goal

abbrev pub invariant-loop-i : goal.invariant-loop-i
invariant-loop-i l = Turns (λ m. is_map l.n m && is_congruence (algebra_of l.n l.arities l.cells) m) l.n l.count l.maps l.i
