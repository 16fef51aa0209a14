-- `all_inside`: the laws of `Insides` keep and end the loop.
use Rattle.equivalence.specs.Equivalence.{byte}
use Rattle.algebra.specs.Algebra.{algebra_of}
use Rattle.keeping.specs.InnerInside.{Testing}
use Rattle.keeping.proofs.inside.all_inside.Given as goal

abbrev pub invariant-loop-i : goal.invariant-loop-i
invariant-loop-i l = Testing (algebra_of l.n l.arities l.cells) l.names l.i (byte l.up) l.maps l.marks l.last
