-- `image::write_tallies` meets its contract.
use borrow.Author.Rules.{rules}
use Rattle.imagepart.proofs.Steps.{laying_none, laying_more}
use Rattle.image.proofs.write_tallies.Goals as goal

pub loop-s-init : goal.loop-s-init
loop-s-init c = laying_none _ _ _ _ _ (search rules)

pub loop-s-preserved : goal.loop-s-preserved
loop-s-preserved c = search laying_more
