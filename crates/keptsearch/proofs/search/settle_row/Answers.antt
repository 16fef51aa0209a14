-- `settle_row`: skipped, taken whole, or settled pair by pair.
use mathlib.Core.Path.{refl}
use Rattle.keptsearch.proofs.Joining.{row_skipped, row_start_lem, row_taken}
use Rattle.keptsearch.proofs.search.settle_row.Goals as goal

pub returns-then-m-x-clause-kept_standing_2 : goal.returns-then-m-x-clause-kept_standing_2
returns-then-m-x-clause-kept_standing_2 c = search row_skipped

pub join_row-requires-clause-row_lent : goal.join_row-requires-clause-row_lent
join_row-requires-clause-row_lent c = row_start_lem c.requires.kept_standing c.requires.x_lt_n c.if-m-x.false refl

pub returns-clause-kept_standing_2 : goal.returns-clause-kept_standing_2
returns-clause-kept_standing_2 c = row_taken c.join_row.ensures.row_lent_2 c.if-all-v.false refl
