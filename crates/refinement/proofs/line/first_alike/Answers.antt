-- `first_alike` meets its contract: x is looked up in the row of its block.
use Rattle.refinement.proofs.Seeing.{seen_renamed}
use Rattle.refinement.proofs.line.first_alike.Goals as goal

pub returns : goal.returns
returns c = search seen_renamed
