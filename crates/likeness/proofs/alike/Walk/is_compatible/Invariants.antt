-- `is_compatible` meets its contract. The loop has compared the first tables, and the next begins at `base`.
use Rattle.likeness.proofs.Likeness.{Tested}
use Rattle.likeness.proofs.alike.Walk.is_compatible.Given as goal

abbrev pub invariant-loop-s : goal.invariant-loop-s
invariant-loop-s l = Tested l.self.n l.arities l.self.cells.now l.self.m.now l.base l.s-index
