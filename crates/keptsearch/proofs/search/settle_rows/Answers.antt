-- `settle_rows`: the rows before x are settled.
use mathlib.Core.Path.{◌∙◌}
use Rattle.keptsearch.proofs.KeptRows.{rows_more, rows_end, bound_grown}
use Rattle.keptsearch.proofs.search.settle_rows.Goals as goal

pub bound_if-requires-clause-bound_lent : goal.bound_if-requires-clause-bound_lent
bound_if-requires-clause-bound_lent c = let r = c.loop-up.invariant in
    let s = c.settle_row.ensures in
    bound_grown r.2.standing s.kept_standing_2 r.2.bound

pub loop-up-preserved : goal.loop-up-preserved
loop-up-preserved c = let t = c.bound_if in
    let r = c.loop-up.invariant in
    (t.auto.table ∙ r.0, t.ensures.keeping_2, rows_more r.2 _ _ c.loop-up-test.true c.settle_row.ensures.kept_standing_2 t.auto.up t.ensures.tightened)

pub returns-clause-earliest : goal.returns-clause-earliest
returns-clause-earliest c = search rows_end
