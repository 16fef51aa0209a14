-- `imagepart::lay_part` meets its contract.
use Rattle.imagepart.proofs.Copies.{laid_part}
use Rattle.imagepart.proofs.lay_part.Goals as goal

pub returns : goal.returns
returns c = laid_part _ _ _ _ c.copy_from_slice.ensures.after
