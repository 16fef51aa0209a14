-- `imagecalls::clear` meets its contract.
use borrow.Author.Rules.{rules}
use Rattle.bench.specs.Calls.{clear_call}
use Rattle.imagecalls.proofs.clear.Goals as goal

pub returns : goal.returns
returns c = c.over_image.ensures (λ b. clear_call b c.args.sheet) (λ b r k. search rules)
