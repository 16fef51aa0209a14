-- `imageconversions::show_v3` meets its contract.
use Rattle.imagecalls.proofs.Images.{third_shown}
use Rattle.imageconversions.proofs.show_v3.Goals as goal

pub returns : goal.returns
returns c = search third_shown
