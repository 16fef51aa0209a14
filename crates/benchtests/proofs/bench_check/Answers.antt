-- `benchtests::bench_check` meets its contract, by the laws of Testing: one for each way to a return.
use Rattle.benchtests.proofs.Testing.{bench_other, bench_faulty, bench_right}
use Rattle.benchtests.proofs.bench_check.Goals as goal
use Rattle.benchtests.proofs.bench_check.Goals.{then-bench-n-via-then-bench-n, then-bench-n-via-else-bench-n+then-not-all_faultless}

pub returns-then-bench-n : goal.returns-then-bench-n
returns-then-bench-n c =
    elim c.then-bench-n.branch [
      | then-bench-n-via-then-bench-n w ↦ search bench_other
      | then-bench-n-via-else-bench-n+then-not-all_faultless w ↦ search bench_faulty
    ]

pub returns : goal.returns
returns c = search bench_right
