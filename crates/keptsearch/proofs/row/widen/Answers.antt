-- `widen`: y is no name, or joined, or joins the marked elements, or is joined now.
use Rattle.keptsearch.proofs.Joining.{row_joins, row_widened, principal_joins, principal_generating}
use Rattle.keptsearch.proofs.row.widen.Goals as goal

pub returns-then-maps-at-clause-row_lent_2 : goal.returns-then-maps-at-clause-row_lent_2
returns-then-maps-at-clause-row_lent_2 c = search (row_joins, principal_joins)

pub unite-requires-clause-canonical : goal.unite-requires-clause-canonical
unite-requires-clause-canonical c = let p = c.requires in
    let g = principal_generating p.row_lent.standing.accepted p.x_lt_y p.y_lt_n c.principal-p.ensures c.if-maps-at.false in
    g.closed.canonical

pub returns-clause-row_lent_2 : goal.returns-clause-row_lent_2
returns-clause-row_lent_2 c = let p = c.requires in
    let here = c.principal-p.ensures in
    let g = principal_generating p.row_lent.standing.accepted p.x_lt_y p.y_lt_n here c.if-maps-at.false in
    row_widened _ p.row_lent p.x_lt_y p.y_lt_n g c.unite.ensures
