-- `imagepart::lay_places` meets its contract.
use borrow.Author.Rules.{rules}
use Rattle.imagepart.proofs.Steps.{laying_none, laying_more}
use Rattle.imagepart.proofs.lay_places.Goals as goal

pub loop-i-init : goal.loop-i-init
loop-i-init c = laying_none _ _ _ _ _ (search rules)

pub loop-i-preserved : goal.loop-i-preserved
loop-i-preserved c = search laying_more
