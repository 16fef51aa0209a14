-- `imagecalls::start` meets its contract.
use native.Mathlib.Omega.{arith}
use Rattle.imagecalls.proofs.Images.{image_other, image_given}
use Rattle.imagecalls.proofs.start.Goals as goal

pub returns-then-bytes-ne-LENGTH : goal.returns-then-bytes-ne-LENGTH
returns-then-bytes-ne-LENGTH c = search (image_other, arith)

pub returns : goal.returns
returns c = let k = c in
    image_given _ _ (omega (arith, k.if-bytes-ne-LENGTH.false)) _ k.start-done.ensures _ c.show.ensures
