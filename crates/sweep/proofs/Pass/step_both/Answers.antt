-- `step_both`: one step after the other, unless the first ends the pass.
use Rattle.sweep.proofs.Crossings.{both_halted, both_swept}
use Rattle.sweep.proofs.Pass.step_both.Goals as goal

pub returns-then-halted : goal.returns-then-halted
returns-then-halted c = search both_halted

pub returns : goal.returns
returns c = let p = c.requires in
    both_swept p.contexts p.lines_inside p.lines_inside_2 p.i_lt_count c.step_at.ensures c.step_at-2.ensures
