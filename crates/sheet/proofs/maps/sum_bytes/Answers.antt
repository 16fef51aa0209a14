-- `sheet::maps::sum_bytes` meets its contract: the loop has added the bytes so far.
use mathlib.Core.Path.{refl}
use native.Mathlib.Omega.{arith}
use Rattle.sheet.specs.InnerSums.{sum}
use Rattle.sheet.proofs.MapSums.{sum_more}
use Rattle.sheet.proofs.maps.sum_bytes.Goals as goal

pub loop-byte-init : goal.loop-byte-init
unfolding sum
loop-byte-init c = (refl, omega arith)

pub loop-byte-preserved : goal.loop-byte-preserved
loop-byte-preserved c = (search sum_more, omega arith)
