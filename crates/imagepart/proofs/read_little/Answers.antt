-- `imagepart::read_little` meets its contract.
use native.Mathlib.Omega.{arith}
use borrow.Author.Rules.{rules}
use Rattle.imagepart.proofs.Littles.{reading_none, reading_more, reading_fits}
use Rattle.imagepart.proofs.read_little.Goals as goal

pub loop-i-init : goal.loop-i-init
loop-i-init c = reading_none _ _ _

pub overflow_mul-x : goal.overflow_mul-x
overflow_mul-x c = omega (arith, reading_fits _ _ _ _ _ c.loop-i.invariant c.requires.k_bound (omega arith))

pub overflow_add-x : goal.overflow_add-x
overflow_add-x c = omega (arith, reading_fits _ _ _ _ _ c.loop-i.invariant c.requires.k_bound (omega arith))

pub loop-i-preserved : goal.loop-i-preserved
loop-i-preserved c = reading_more _ _ _ _ _ _ c.loop-i.invariant c.requires.k_in_bounds (omega arith) c.from.ensures (search rules)
