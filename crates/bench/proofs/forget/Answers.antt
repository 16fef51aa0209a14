-- `bench::forget` meets its contract, by what its tests found.
use borrow.Author.Rules.{rules}
use Rattle.bench.specs.Calls.{forget_call}
use Rattle.bench.proofs.Calling.{benched_by}
use Rattle.bench.proofs.forget.Goals as goal

pub returns : goal.returns
unfolding forget_call
returns c = benched_by _ _ _ c.known_check-check.ensures _ _ c.by.ensures.answer c.by.ensures.bench (λ p. search rules)
