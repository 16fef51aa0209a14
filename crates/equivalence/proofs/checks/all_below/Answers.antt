-- `all_below` is `every`, by the laws of Passes.
use Rattle.std.proofs.Common.{rules, ltb}
use borrow.Author.Tests.{tests}
use Rattle.equivalence.proofs.Passes.{all_of_slice}
use Rattle.equivalence.proofs.checks.all_below.Goals as goal

pub returns : goal.returns
returns c = all_of_slice (λ x. ltb x c.args.n) c.args.bytes.now c.all.ensures.ran (search rules) (λ x b q k. search (rules, tests))
