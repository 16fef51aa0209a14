-- `imageconversions::convert` meets its contract.
use native.Mathlib.Omega.{arith}
use Rattle.imagecalls.proofs.Images.{old_first, old_second, old_other, new_other, old_called}
use Rattle.imageconversions.proofs.convert.Goals as goal

pub returns-then-old-eq-LENGTH_V1 : goal.returns-then-old-eq-LENGTH_V1
returns-then-old-eq-LENGTH_V1 c = search (old_first, arith)

pub returns-then-old-eq-LENGTH_V2 : goal.returns-then-old-eq-LENGTH_V2
returns-then-old-eq-LENGTH_V2 c = search (old_second, arith)

pub returns-then-old-ne-LENGTH_V3 : goal.returns-then-old-ne-LENGTH_V3
returns-then-old-ne-LENGTH_V3 c = search (old_other, arith)

pub returns-then-bytes-ne-LENGTH : goal.returns-then-bytes-ne-LENGTH
returns-then-bytes-ne-LENGTH c = search (new_other, arith)

pub returns : goal.returns
returns c = search (old_called, arith)
