-- `bench::return_to` meets its contract, by what its tests found.
use borrow.Author.Rules.{rules}
use Rattle.bench.specs.Calls.{return_call}
use Rattle.bench.proofs.Calling.{benched_by}
use Rattle.bench.proofs.return_to.Goals as goal

pub returns : goal.returns
unfolding return_call
returns c = benched_by _ _ _ c.known_check-check.ensures _ _ c.by.ensures.answer c.by.ensures.bench (λ p. search rules)
