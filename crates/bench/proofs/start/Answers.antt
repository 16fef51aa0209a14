-- `bench::start` meets its contract, by what its test found.
use mathlib.Core.Path.{sym, ◌∙◌}
use borrow.Author.Rules.{rules}
use Rattle.benchtests.proofs.Testing.{start_passed}
use Rattle.bench.specs.Calls.{start_call}
use Rattle.bench.proofs.Calling.{benched_passed, benched_failed}
use Rattle.bench.proofs.start.Goals as goal

pub fresh-requires : goal.fresh-requires
fresh-requires c = let p = start_passed _ (sym c.start_check.ensures ∙ c.in-Ok.is) in search rules

pub returns-in-Ok : goal.returns-in-Ok
unfolding start_call
returns-in-Ok c = rw c.fresh.ensures (sym (benched_passed _ _ _ (sym c.start_check.ensures ∙ c.in-Ok.is)))

pub returns-in-Err : goal.returns-in-Err
unfolding start_call
returns-in-Err c = rw c.zeros.ensures (sym (benched_failed _ _ _ _ (sym c.start_check.ensures ∙ c.in-Err.is)))
