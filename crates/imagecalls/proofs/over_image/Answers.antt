-- `imagecalls::over_image` meets its contract, whatever the call gives.
use native.Mathlib.Omega.{arith}
use Rattle.imagecalls.proofs.Images.{image_other, image_called}
use Rattle.imagecalls.proofs.over_image.Goals as goal

pub returns-then-bytes-ne-LENGTH : goal.returns-then-bytes-ne-LENGTH
returns-then-bytes-ne-LENGTH g c = λ given h. image_other given _ c.if-bytes-ne-LENGTH.true

pub returns : goal.returns
returns g c = λ given h. image_called given _ (omega arith) _ c.read-before.ensures _ (h _ _ c.call-done.ensures) _ c.show.ensures
