-- `imageconversions::convert_first` meets its contract.
use native.Mathlib.Omega.{arith}
use Rattle.imagecalls.proofs.Images.{first_other, first_called}
use Rattle.imageconversions.proofs.convert_first.Goals as goal

pub returns-then-bytes-ne-LENGTH_V2 : goal.returns-then-bytes-ne-LENGTH_V2
returns-then-bytes-ne-LENGTH_V2 c = search (first_other, arith)

pub returns : goal.returns
returns c = search (first_called, arith)
