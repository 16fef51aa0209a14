-- `is_compatible` meets its contract. The loop has compared the first tables, and the next begins at `base`.
use native.Mathlib.Omega.{arith}
use Rattle.likeness.proofs.Likeness.{tested_none, tested_there, tested_apart, tested_more, tested_all}
use Rattle.likeness.proofs.alike.Walk.is_compatible.Goals as goal

pub loop-s-init : goal.loop-s-init
loop-s-init c = search tested_none

pub table_alike-requires-clause-s_in_bounds : goal.table_alike-requires-clause-s_in_bounds
table_alike-requires-clause-s_in_bounds c = (tested_there c.loop-s.invariant c.loop-s-test.true).room

pub returns-then-not-table_alike : goal.returns-then-not-table_alike
returns-then-not-table_alike c = search tested_apart

pub overflow_add-base : goal.overflow_add-base
overflow_add-base c = omega (arith, tested_there c.loop-s.invariant c.loop-s-test.true, c.power-base.ensures)

pub loop-s-preserved : goal.loop-s-preserved
loop-s-preserved c = search tested_more

pub returns : goal.returns
returns c = search tested_all
