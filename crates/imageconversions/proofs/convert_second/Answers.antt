-- `imageconversions::convert_second` meets its contract.
use native.Mathlib.Omega.{arith}
use Rattle.imagecalls.proofs.Images.{second_other, second_called}
use Rattle.imageconversions.proofs.convert_second.Goals as goal

pub returns-then-bytes-ne-LENGTH_V3 : goal.returns-then-bytes-ne-LENGTH_V3
returns-then-bytes-ne-LENGTH_V3 c = search (second_other, arith)

pub returns : goal.returns
returns c = search (second_called, arith)
