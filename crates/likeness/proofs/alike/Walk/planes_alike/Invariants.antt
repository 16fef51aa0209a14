-- `planes_alike` meets its contract. The loop has compared the planes of the names below x.
use Rattle.equivalence.specs.Equivalence.{byte}
use Rattle.likeness.proofs.Likeness.{NamesBelow}
use Rattle.likeness.proofs.alike.Walk.planes_alike.Given as goal

abbrev pub invariant-loop-x : goal.invariant-loop-x
invariant-loop-x l = NamesBelow l.self.n l.area 2 l.self.cells.now (byte l.self.m.now) l.base l.x
