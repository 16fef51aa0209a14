-- `settle_rows`: the rows before x are settled.
use mathlib.Core.Path.{◌∙◌}
use Rattle.separation.proofs.Standings.{rows_more, rows_end}
use borrow.Author.Rules.{rules}
use Rattle.separation.proofs.search.settle_rows.Goals as goal

pub loop-up-preserved : goal.loop-up-preserved
loop-up-preserved c = let s = c.settle_row.ensures in
    let t = c.bound_if in
    let r = c.loop-up.invariant in
    (t.auto.table ∙ r.0, rows_more r.1 _ c.loop-up-test.true (search rules) s.standing_2 s.marks_2 t.auto.up t.ensures)

pub returns-clause-earliest : goal.returns-clause-earliest
returns-clause-earliest c = search rows_end
