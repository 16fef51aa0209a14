-- `all_congruences`: the laws of `Turns` start, keep and end the loop.
use native.Mathlib.Omega.{arith}
use Rattle.algebra.specs.Congruence.{is_congruence}
use Rattle.certification.proofs.Turns.{turns_begin, turns_end, turn_fits, turn_fails, turn_passes, turn_map, turn_both}
use Rattle.certification.proofs.all_congruences.Goals as goal

pub loop-i-init : goal.loop-i-init
loop-i-init c = search turns_begin

pub overflow_add-at : goal.overflow_add-at
overflow_add-at c = omega (arith, turn_fits c.loop-i.invariant c.loop-i-test.true)

pub slice_bounds-is_congruence-end : goal.slice_bounds-is_congruence-end
slice_bounds-is_congruence-end c = omega (arith, turn_fits c.loop-i.invariant c.loop-i-test.true)

pub is_congruence-requires-clause-t : goal.is_congruence-requires-clause-t
is_congruence-requires-clause-t c = search turn_map

pub returns-then-not-is_congruence : goal.returns-then-not-is_congruence
returns-then-not-is_congruence c = let e = turn_both c.requires.maps_listed c.loop-i.invariant c.loop-i-test.true (is_congruence _) c.is_congruence.ensures in search turn_fails

pub loop-i-preserved : goal.loop-i-preserved
loop-i-preserved c = let e = turn_both c.requires.maps_listed c.loop-i.invariant c.loop-i-test.true (is_congruence _) c.is_congruence.ensures in search turn_passes

pub returns : goal.returns
returns c = search turns_end
