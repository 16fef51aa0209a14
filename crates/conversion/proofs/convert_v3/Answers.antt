-- `conversion::convert_v3` meets its contract, by what its tests found.
use mathlib.Core.Path.{sym, ◌∙◌}
use Rattle.bench.proofs.Calling.{benched_passed, benched_failed}
use Rattle.conversion.specs.Conversion.{convert_v3_call}
use Rattle.conversion.proofs.Conversions.{found_v3}
use Rattle.conversion.proofs.convert_v3.Goals as goal

pub returns-in-Ok : goal.returns-in-Ok
unfolding convert_v3_call
returns-in-Ok c = rw c.with_tallies-bench.ensures (sym (benched_passed _ _ _ (sym (found_v3 _ _ c.with_tallies-bench.ensures c.clear_check.ensures) ∙ c.in-Ok.is)))

pub returns-in-Err : goal.returns-in-Err
unfolding convert_v3_call
returns-in-Err c = rw c.zeros.ensures (sym (benched_failed _ _ _ _ (sym (found_v3 _ _ c.with_tallies-bench.ensures c.clear_check.ensures) ∙ c.in-Err.is)))
