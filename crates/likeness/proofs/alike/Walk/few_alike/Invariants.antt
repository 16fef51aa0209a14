-- `few_alike` meets its contract. The loop has compared the first i cells.
use Rattle.equivalence.specs.Equivalence.{byte}
use Rattle.likeness.specs.InnerAlike.{StretchAlike}
use Rattle.likeness.proofs.alike.Walk.few_alike.Given as goal

abbrev pub invariant-loop-i : goal.invariant-loop-i
invariant-loop-i l = StretchAlike l.i l.self.cells.now (byte l.self.m.now) l.base l.first
