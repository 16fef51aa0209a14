-- `apart` meets its contract. The loop has passed the first i elements in use, two in each turn.
use Rattle.refinement.proofs.Rows.{row_cells, beside_more, beside_two, beside_found, beside_all}
use native.Mathlib.Omega.{arith}
use Rattle.refinement.proofs.plane.apart.Goals as goal

pub returns-then-parted-2 : goal.returns-then-parted-2
returns-then-parted-2 c = beside_found (beside_more c.loop-i.invariant (omega arith) c.parted.ensures c.if-parted.false) c.parted-in-loop-i.ensures c.if-parted-2.true c.loop-i-test.true

pub loop-i-preserved : goal.loop-i-preserved
loop-i-preserved c = beside_two c.loop-i.invariant c.loop-i-test.true c.parted.ensures c.if-parted.false c.parted-in-loop-i.ensures c.if-parted-2.false

pub parted-requires-2 : goal.parted-requires-2
parted-requires-2 c = row_cells c.requires.rows_lent c.requires.elements c.if-round-i.false

pub returns : goal.returns
returns c = beside_all (beside_more c.loop-i.invariant c.if-round-i.false c.parted-2.ensures c.if-parted-3.false) c.loop-i-test.false
