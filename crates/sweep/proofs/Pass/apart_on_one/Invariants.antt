-- `apart_on_one`: the indices passed are joined on both.
use lib.ListN.{length}
use Rattle.sweep.specs.InnerContexts.{PassedBoth}
use Rattle.equivalence.specs.Equivalence.{byte}
use Rattle.sweep.proofs.Pass.apart_on_one.Given as goal

abbrev pub invariant-loop-i : goal.invariant-loop-i
invariant-loop-i l = PassedBoth l.self.cells.now l.self.live.now (length l.self.live.now) l.last l.first l.start l.i (byte l.map)
