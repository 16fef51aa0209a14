-- `split_all` meets its contract. The loop has walked over the tables below j, and the next begins at `base`.
use Rattle.refinement.proofs.Refinements.{tabling_none, tabling_there, tabling_room, tabling_more, tabling_done, tabling_over}
use native.Mathlib.Omega.{arith}
use Rattle.refinement.proofs.Fronts.{walk_front, table_back}
use Rattle.refinement.proofs.table.split_all.Goals as goal

pub loop-s-init : goal.loop-s-init
loop-s-init c = search tabling_none

pub returns-then-left-eq0 : goal.returns-then-left-eq0
returns-then-left-eq0 c = search tabling_over

pub split_table-left-requires-clause-s_in_bounds : goal.split_table-left-requires-clause-s_in_bounds
split_table-left-requires-clause-s_in_bounds c = search tabling_room

pub overflow_add-base : goal.overflow_add-base
overflow_add-base c = omega (arith, tabling_there c.loop-s.invariant c.loop-s-test.true, c.power-base.ensures)

pub split_table-left-requires-clause-walk : goal.split_table-left-requires-clause-walk
split_table-left-requires-clause-walk c = walk_front c.loop-s.invariant.walked.walk

pub loop-s-preserved : goal.loop-s-preserved
loop-s-preserved c = tabling_more c.loop-s.invariant c.loop-s-test.true (table_back _ c.split_table-left.ensures) c.power-base.ensures

pub returns : goal.returns
returns c = search tabling_done
