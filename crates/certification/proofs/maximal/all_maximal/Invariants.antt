-- `all_maximal`: the laws of `Turns` start, keep and end the loop.
use Rattle.equivalence.specs.Lists.{any}
use Rattle.pairorder.specs.Order.{pairs}
use Rattle.algebra.specs.Algebra.{algebra_of}
use Rattle.theory.specs.Certify.{is_maximal_for}
use Rattle.certification.proofs.Turns.{Turns}
use Rattle.certification.proofs.maximal.all_maximal.Given as goal

abbrev pub invariant-loop-i : goal.invariant-loop-i
invariant-loop-i l = Turns (λ m. any (is_maximal_for (algebra_of l.n l.arities l.cells) m) (pairs l.n)) l.n l.count l.listed l.i
