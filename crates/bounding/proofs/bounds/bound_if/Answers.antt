-- `bound_if`: nothing is done, or the bound is met with two blocks and refined.
use Rattle.bounding.proofs.RowBounds.{met_represented, met_canonical, tightened}
use Rattle.bounding.proofs.bounds.bound_if.Goals as goal

pub refine_above-requires-clause-canonical : goal.refine_above-requires-clause-canonical
refine_above-requires-clause-canonical c = let p = c.requires in
    let two = c.two_blocks.ensures.two_blocks in
    let met = c.meet_with in
    met_canonical p.row_settled p.bound_lent _ two _ met.ensures

pub refine_above-requires-clause-represented : goal.refine_above-requires-clause-represented
refine_above-requires-clause-represented c = let p = c.requires in
    let two = c.two_blocks.ensures.two_blocks in
    let met = c.meet_with in
    met_represented p.row_settled p.bound_lent _ two _ met.ensures

pub returns : goal.returns
returns c = let p = c.requires in
    let last = c.refine_above.ensures in
    tightened p.row_settled p.bound_lent _ c.two_blocks.ensures.two_blocks _ c.meet_with.ensures last.refined last.kept_past
