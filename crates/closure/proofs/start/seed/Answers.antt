-- `seed`: the pairs passed are joined, and everything that joins all pairs has made the merges.
use Rattle.sweep.proofs.Queues.{grown_more}
use Rattle.closure.proofs.Starting.{pairs_more}
use native.Mathlib.Omega.{arith}
use Rattle.closure.proofs.start.seed.Goals as goal

pub loop-j-preserved : goal.loop-j-preserved
loop-j-preserved c = let l = c.loop-j in
    let d = c.merge.ensures in (
      grown_more (λ g good h. good l.j (omega arith)) l.invariant.0 d.grown,
      pairs_more c.args.pairs.now c.requires.by_index (omega arith) d.grown.within d.a_after l.invariant.1,
    )
