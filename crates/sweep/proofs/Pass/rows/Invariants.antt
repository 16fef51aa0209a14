-- `rows`: the rows passed are joined.
use Rattle.sweep.specs.InnerContexts.{JoinsRows, rows_of}
use lib.ListN.{length}
use Rattle.sweep.specs.InnerQueue.{state_of}
use Rattle.sweep.specs.InnerSweeps.{SweptTo}
use Rattle.sweep.proofs.Pass.rows.Given as goal

abbrev pub invariant-loop-i : goal.invariant-loop-i
invariant-loop-i l = SweptTo l.self.n l.self.refused.now l.self.stop (JoinsRows l.self.n l.self.cells.now l.self.live.now (length l.self.live.now) l.deep l.images (rows_of l.deep (length l.self.live.now))) (JoinsRows l.self.n l.self.cells.now l.self.live.now (length l.self.live.now) l.deep l.images l.i) (state_of l.initial.merging) (state_of l.merging)
