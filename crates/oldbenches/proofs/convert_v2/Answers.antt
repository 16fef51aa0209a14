-- `oldbenches::convert_v2` meets its contract, by what its tests found.
use borrow.Author.Rules.{rules}
use Rattle.bench.proofs.Calling.{benched_by}
use Rattle.oldbenches.specs.OldKinds.{convert_v2_call}
use Rattle.oldbenches.proofs.convert_v2.Goals as goal

pub returns : goal.returns
unfolding convert_v2_call
returns c = rw (← c.zeros_v3.ensures) (benched_by _ _ _ c.convert_check-check.ensures _ _ c.by.ensures.answer c.by.ensures.bench (λ p. search rules))
