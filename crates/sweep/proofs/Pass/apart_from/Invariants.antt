-- `apart_from`: the indices passed are joined.
use lib.ListN.{length}
use Rattle.sweep.specs.InnerContexts.{Passed}
use Rattle.equivalence.specs.Equivalence.{byte}
use Rattle.sweep.proofs.Pass.apart_from.Given as goal

abbrev pub invariant-loop-i : goal.invariant-loop-i
invariant-loop-i l = Passed l.self.cells.now l.self.live.now (length l.self.live.now) l.lines l.start l.i (byte l.map)
