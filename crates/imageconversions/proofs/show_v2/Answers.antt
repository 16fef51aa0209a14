-- `imageconversions::show_v2` meets its contract.
use Rattle.imagecalls.proofs.Images.{second_shown}
use Rattle.imageconversions.proofs.show_v2.Goals as goal

pub returns : goal.returns
returns c = search second_shown
