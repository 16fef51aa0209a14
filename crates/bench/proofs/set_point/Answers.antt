-- `bench::set_point` meets its contract, by what its tests found.
use borrow.Author.Rules.{rules}
use Rattle.bench.specs.Calls.{set_call}
use Rattle.bench.proofs.Calling.{benched_by}
use Rattle.bench.proofs.set_point.Goals as goal

pub returns : goal.returns
unfolding set_call
returns c = benched_by _ _ _ c.set_check-check.ensures _ _ c.by.ensures.answer c.by.ensures.bench (λ p. search rules)
