-- `irreducible_among`: the laws of `Calling` start, keep and end the loop.
use native.Mathlib.Omega.{arith}
use Rattle.claim.proofs.Claims.{calling_start, calling_part, calling_fits, calling_more, calling_all}
use Rattle.claim.proofs.irreducible_among.Goals as goal

pub loop-i-init : goal.loop-i-init
loop-i-init c = search calling_start

pub overflow_add-at : goal.overflow_add-at
overflow_add-at c = omega (arith, calling_part c.loop-i.invariant c.loop-i-test.true)

pub slice_bounds-factor_calls-end : goal.slice_bounds-factor_calls-end
slice_bounds-factor_calls-end c = omega (arith, calling_part c.loop-i.invariant c.loop-i-test.true)

pub overflow_add-irreducible : goal.overflow_add-irreducible
overflow_add-irreducible c = search (calling_fits, arith)

pub loop-i-preserved : goal.loop-i-preserved
loop-i-preserved c = search calling_more

pub returns-clause-value : goal.returns-clause-value
returns-clause-value c = (calling_all c.loop-i.invariant (omega arith)).0

pub returns-clause-tables_after : goal.returns-clause-tables_after
returns-clause-tables_after c = (calling_all c.loop-i.invariant (omega arith)).1
