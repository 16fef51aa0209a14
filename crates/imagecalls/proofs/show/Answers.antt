-- `imagecalls::show` meets its contract.
use Rattle.imagecalls.proofs.Images.{bench_shown_lem}
use Rattle.imagecalls.proofs.show.Goals as goal

pub returns : goal.returns
returns c = search bench_shown_lem
