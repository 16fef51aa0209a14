-- `bench::add` meets its contract.
use mathlib.Core.Path.{sym, ◌∙◌}
use Rattle.equivalence.proofs.Refusals.{lowest_failed}
use Rattle.bench.specs.Calls.{add_call}
use Rattle.bench.proofs.Calling.{benched_failed}
use Rattle.bench.proofs.add.Goals as goal

pub returns-in-Err : goal.returns-in-Err
unfolding add_call
returns-in-Err c = sym (benched_failed _ _ _ _ (lowest_failed _ _ _ (sym c.handed_check.ensures ∙ c.in-Err.is)))
