-- `bench::clear` meets its contract, by what its tests found.
use mathlib.Core.Path.{sym, ◌∙◌}
use borrow.Author.Rules.{rules}
use Rattle.benchtests.proofs.Testing.{clear_passed}
use Rattle.bench.specs.Calls.{clear_call}
use Rattle.bench.proofs.Calling.{benched_passed, benched_failed}
use Rattle.bench.proofs.clear.Goals as goal

pub cleared-requires : goal.cleared-requires
cleared-requires c = let p = clear_passed _ _ (sym c.clear_check.ensures ∙ c.in-Ok.is) in search rules

pub returns-in-Ok : goal.returns-in-Ok
unfolding clear_call
returns-in-Ok c = rw c.cleared.ensures (sym (benched_passed _ _ _ (sym c.clear_check.ensures ∙ c.in-Ok.is)))

pub returns-in-Err : goal.returns-in-Err
unfolding clear_call
returns-in-Err c = sym (benched_failed _ _ _ _ (sym c.clear_check.ensures ∙ c.in-Err.is))
