-- `sheet::maps::count_above` meets its contract: the loop has counted the first x bytes.
use mathlib.Core.Bool.{Bool, true, false}
use mathlib.Core.Path.{◌≡◌, refl, ◌∙◌}
use native.Mathlib.Omega.{arith}
use borrow.Author.Rules.{rules}
use Rattle.std.specs.Int.{from_bool}
use Rattle.kernel.specs.InnerKernel.{bit}
use Rattle.sheet.specs.InnerSums.{sum, exceeding}
use Rattle.sheet.proofs.MapSums.{sum_more}
use Rattle.sheet.proofs.maps.count_above.Goals as goal

from_bool_bit : (b : Bool) → from_bool b ≡ bit b
from_bool_bit true = refl
from_bool_bit false = refl

pub loop-x-init : goal.loop-x-init
unfolding sum
loop-x-init c = (refl, omega arith)

pub loop-x-preserved : goal.loop-x-preserved
unfolding exceeding
loop-x-preserved c = (sum_more _ _ c.loop-x.invariant.0 (c.from-count.ensures ∙ from_bool_bit _), search rules)
