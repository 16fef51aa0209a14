-- `operations`: the operations passed are joined, unless v and w are; o is where the next table begins.
use mathlib.Core.Path.{◌≡◌}
use lib.ListN.{length, take}
use Rattle.algebra.specs.Algebra.{algebra_of, cell_count}
use Rattle.kernel.specs.InnerKernel.{Listed}
use Rattle.sweep.specs.InnerContexts.{OperationsIn}
use Rattle.sweep.specs.InnerQueue.{state_of}
use Rattle.sweep.specs.InnerSweeps.{SweptTo}
use Rattle.sweep.proofs.Pass.operations.Given as goal

abbrev pub invariant-loop-j : goal.invariant-loop-j
invariant-loop-j l = (l.o ≡ cell_count l.self.n (take l.j l.arities)) × SweptTo l.self.n l.self.refused.now l.self.stop (OperationsIn (algebra_of l.self.n l.arities l.self.cells.now) (length l.arities) (Listed l.self.live.now (length l.self.live.now)) l.x l.y) (OperationsIn (algebra_of l.self.n l.arities l.self.cells.now) l.j (Listed l.self.live.now (length l.self.live.now)) l.x l.y) (state_of l.initial.merging) (state_of l.merging)
