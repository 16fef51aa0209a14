-- `sheet::maps::sum_named` meets its contract: the loop has added the bytes of the names so far.
use mathlib.Core.Path.{refl}
use native.Mathlib.Omega.{arith}
use Rattle.sheet.specs.InnerSums.{sum}
use Rattle.sheet.proofs.MapSums.{sum_more}
use Rattle.sheet.proofs.maps.sum_named.Goals as goal

pub loop-name-init : goal.loop-name-init
unfolding sum
loop-name-init c = (refl, omega arith)

pub loop-name-preserved : goal.loop-name-preserved
loop-name-preserved c = (sum_more _ _ c.loop-name.invariant.0 (cc), omega arith)
