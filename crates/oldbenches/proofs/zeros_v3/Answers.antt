-- `oldbenches::zeros_v3` meets its contract.
use Rattle.oldbenches.specs.OldKinds.{zero_bench_v3}
use Rattle.oldbenches.proofs.zeros_v3.Goals as goal

pub returns : goal.returns
unfolding zero_bench_v3
returns c = rw c.zero_sheet_v3.ensures
