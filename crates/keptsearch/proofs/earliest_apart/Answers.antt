-- `earliest_apart`: from the identity and one block through the rows.
use mathlib.Core.Path.{◌∙◌}
use Rattle.bounding.proofs.RowBounds.{bound_lent_start, whole_kept}
use Rattle.keptsearch.proofs.KeptRows.{kept_start}
use Rattle.keptsearch.proofs.earliest_apart.Goals as goal

pub settle_rows-requires-clause-kept_standing : goal.settle_rows-requires-clause-kept_standing
settle_rows-requires-clause-kept_standing c = let p = c.requires in
    let i = c.fresh-m.ensures in
    kept_start p.accepted i.room p.v_lt_n p.w_lt_n p.fact i.own

pub settle_rows-requires-clause-bound_lent : goal.settle_rows-requires-clause-bound_lent
settle_rows-requires-clause-bound_lent c = bound_lent_start c.requires.accepted _ _ c.requires.n_in_bounds c.whole_into.auto.m c.whole_into.ensures

pub returns-clause-kept_past : goal.returns-clause-kept_past
returns-clause-kept_past c = let s = c.settle_rows.ensures in
    λ z l. s.kept_past z l ∙ whole_kept _ _ _ c.requires.n_in_bounds c.whole_into.ensures z l
