-- `take_whole`: nothing, or a join with a congruence.
use native.Mathlib.Omega.{arith}
use Rattle.algebra.proofs.Accepted.{accepted_well_formed}
use Rattle.keptsearch.proofs.Joining.{whole_generating, row_grow}
use Rattle.keptsearch.proofs.row.take_whole.Goals as goal

pub unite-requires-clause-canonical : goal.unite-requires-clause-canonical
unite-requires-clause-canonical c = let p = c.requires in
    let g = whole_generating (accepted_well_formed _ p.row_lent.standing.accepted) p.keeping p.x_lt_y p.y_lt_n c.place-p.ensures c.if-marks-p-ne-WHOLE.false in
    g.closed.canonical

pub returns : goal.returns
returns c = let p = c.requires in
    let g = whole_generating (accepted_well_formed _ p.row_lent.standing.accepted) p.keeping p.x_lt_y p.y_lt_n c.place-p.ensures c.if-marks-p-ne-WHOLE.false in
    row_grow p.row_lent _ (omega (arith, p.row_lent.below)) p.x_lt_y p.y_lt_n g c.unite.ensures
