-- `split_element` meets its contract. The loop has split along lines that took x and the smallest member of its block apart.
use Rattle.refinement.proofs.Splits.{parted_less}
use Rattle.refinement.proofs.Rows.{near_line, near_more}
use Rattle.refinement.proofs.plane.split_element.Goals as goal

pub split_at-requires-clause-line_lent : goal.split_at-requires-clause-line_lent
split_at-requires-clause-line_lent c = near_line c.loop-m.invariant c.in-Some.ensures

pub loop-m-smaller : goal.loop-m-smaller
loop-m-smaller c = search parted_less

pub loop-m-preserved : goal.loop-m-preserved
loop-m-preserved c = near_more c.loop-m.invariant c.in-Some.ensures c.split_at.ensures
