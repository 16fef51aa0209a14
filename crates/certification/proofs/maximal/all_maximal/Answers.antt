-- `all_maximal`: the laws of `Turns` start, keep and end the loop.
use native.Mathlib.Omega.{arith}
use Rattle.certification.proofs.Turns.{turns_begin, turns_end, turn_fits, turn_fails, turn_passes, turn_congruence}
use Rattle.certification.proofs.maximal.all_maximal.Goals as goal

pub loop-i-init : goal.loop-i-init
loop-i-init c = search turns_begin

pub overflow_add-at : goal.overflow_add-at
overflow_add-at c = omega (arith, turn_fits c.loop-i.invariant c.loop-i-test.true)

pub slice_bounds-is_maximal-end : goal.slice_bounds-is_maximal-end
slice_bounds-is_maximal-end c = omega (arith, turn_fits c.loop-i.invariant c.loop-i-test.true)

pub is_maximal-requires-clause-congruence : goal.is_maximal-requires-clause-congruence
is_maximal-requires-clause-congruence c = search turn_congruence

pub returns-then-not-is_maximal : goal.returns-then-not-is_maximal
returns-then-not-is_maximal c = search turn_fails

pub loop-i-preserved : goal.loop-i-preserved
loop-i-preserved c = search turn_passes

pub returns : goal.returns
returns c = search turns_end
