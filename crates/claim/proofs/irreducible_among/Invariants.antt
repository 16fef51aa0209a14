-- `irreducible_among`: the laws of `Calling` start, keep and end the loop.
use Rattle.algebra.specs.Algebra.{algebra_of}
use Rattle.claim.proofs.Claims.{Calling}
use Rattle.claim.proofs.irreducible_among.Given as goal

abbrev pub invariant-loop-i : goal.invariant-loop-i
invariant-loop-i l = Calling (algebra_of l.n l.arities l.cells) l.list l.count l.initial.tables l.i l.irreducible l.tables
