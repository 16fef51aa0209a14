-- `settle_pair`: skipped, known to join the marked elements, or joined.
use Rattle.keptsearch.proofs.Joining.{pair_skipped, pair_joins, principal_joins, principal_generating}
use Rattle.keptsearch.proofs.pairs.settle_pair.Goals as goal

pub returns-then-m-y-clause-kept_standing_2 : goal.returns-then-m-y-clause-kept_standing_2
returns-then-m-y-clause-kept_standing_2 c = search pair_skipped

pub returns-then-maps-at-clause-kept_standing_2 : goal.returns-then-maps-at-clause-kept_standing_2
returns-then-maps-at-clause-kept_standing_2 c = search (pair_joins, principal_joins)

pub take_apart-requires-clause-generating : goal.take_apart-requires-clause-generating
take_apart-requires-clause-generating c = let p = c.requires in
    principal_generating p.kept_standing.accepted p.x_lt_y p.y_lt_n c.principal-p.ensures c.if-maps-at.false
