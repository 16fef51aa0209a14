-- `bound_if`: nothing is done, or the bound is met with two blocks and refined.
use Rattle.bounding.proofs.RowBounds.{met_canonical, met_represented, tightened}
use Rattle.keptsearch.proofs.KeptRows.{kept_row}
use Rattle.keptsearch.proofs.bound.bound_if.Goals as goal

pub refine_kept-requires-clause-canonical : goal.refine_kept-requires-clause-canonical
refine_kept-requires-clause-canonical c = let p = c.requires in
    let b = p.bound_lent in
    let row = kept_row p.kept_standing p.x_lt_n c.list_names-count.ensures in
    let two = c.two_blocks.ensures.two_blocks in
    let met = c.meet_with in
    met_canonical row b _ two _ met.ensures

pub refine_kept-requires-clause-represented : goal.refine_kept-requires-clause-represented
refine_kept-requires-clause-represented c = let p = c.requires in
    let b = p.bound_lent in
    let row = kept_row p.kept_standing p.x_lt_n c.list_names-count.ensures in
    let two = c.two_blocks.ensures.two_blocks in
    let met = c.meet_with in
    met_represented row b _ two _ met.ensures

pub returns-clause-tightened : goal.returns-clause-tightened
returns-clause-tightened c = let p = c.requires in
    let b = p.bound_lent in
    let row = kept_row p.kept_standing p.x_lt_n c.list_names-count.ensures in
    let two = c.two_blocks.ensures.two_blocks in
    let met = c.meet_with in
    let last = c.refine_kept.ensures in
    tightened row b _ two _ met.ensures last.refined last.kept_past
