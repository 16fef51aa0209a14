-- `step`: where the pair is refused, whatever joins what is refused rightly and joins a and b joins v and w; else a merge.
use Rattle.sweep.proofs.Sweeps.{swept_step}
use Rattle.sweep.proofs.Pass.step.Goals as goal

pub returns : goal.returns
returns c = let p = c.requires in
    let d = c.merge.ensures in
    swept_step p.sweeping p.a_lt_n p.b_lt_n c.is_refused-over.ensures c.chosen-p.ensures c.chosen-q.ensures d.grown d.a_after
