-- `earliest_apart`: from the identity and one block through the rows.
use mathlib.Core.Path.{◌∙◌}
use native.Mathlib.Omega.{arith}
use Rattle.bounding.proofs.RowBounds.{bound_lent_start, whole_kept}
use Rattle.separation.proofs.Standings.{standing_start, marks_start}
use Rattle.separation.proofs.earliest_apart.Goals as goal

pub settle_rows-requires-clause-bound_lent : goal.settle_rows-requires-clause-bound_lent
settle_rows-requires-clause-bound_lent c = let o = c.whole_into in
    bound_lent_start c.requires.accepted _ _ c.requires.n_in_bounds o.auto.m o.ensures

pub settle_rows-requires-clause-standing : goal.settle_rows-requires-clause-standing
settle_rows-requires-clause-standing c = let p = c.requires in
    standing_start p.accepted p.v_lt_n p.w_lt_n p.fact (omega arith) (omega arith) (omega arith) c.fresh.ensures c.fresh-2.ensures c.fresh-3.ensures

pub settle_rows-requires-clause-marks : goal.settle_rows-requires-clause-marks
settle_rows-requires-clause-marks c = marks_start c.requires.accepted

pub returns-clause-kept_past : goal.returns-clause-kept_past
returns-clause-kept_past c = let s = c.settle_rows.ensures in
    (λ z l. s.kept_past z l ∙ whole_kept _ _ _ c.requires.n_in_bounds c.whole_into.ensures z l)
