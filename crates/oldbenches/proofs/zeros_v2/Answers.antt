-- `oldbenches::zeros_v2` meets its contract.
use mathlib.Core.Path.{refl}
use Rattle.oldbenches.specs.OldKinds.{zero_bench_v2}
use Rattle.oldbenches.proofs.zeros_v2.Goals as goal

pub returns : goal.returns
unfolding zero_bench_v2
returns c = refl
