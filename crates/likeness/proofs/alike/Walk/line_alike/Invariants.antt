-- `line_alike` meets its contract. The loop has compared the cells of the first i others.
use Rattle.equivalence.specs.Equivalence.{byte}
use Rattle.likeness.proofs.Likeness.{LineBelow}
use Rattle.likeness.proofs.alike.Walk.line_alike.Given as goal

abbrev pub invariant-loop-x : goal.invariant-loop-x
invariant-loop-x l = LineBelow l.self.cells.now l.self.others.now (byte l.self.m.now) l.base l.x-index
