-- `imagecalls::add` meets its contract.
use borrow.Author.Rules.{rules}
use Rattle.algebra.specs.Algebra.{algebra_in}
use Rattle.bench.specs.Calls.{add_call}
use Rattle.imagecalls.proofs.add.Goals as goal

pub returns : goal.returns
returns c = let a = c.args in
    c.over_image.ensures (λ b. add_call b (algebra_in a.n a.arities a.cells) a.sheet a.x a.y) (λ b r k. search rules)
