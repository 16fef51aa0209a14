-- `image::tallied` meets its contract.
use mathlib.Core.Path.{refl}
use Rattle.image.specs.Image.{tallied}
use Rattle.image.proofs.tallied.Goals as goal

pub returns : goal.returns
unfolding tallied
returns c = refl
