-- `rename_all` meets its contract. The loop has named every element below x, and the rows have them.
use Prim.Native.Nat.{◌≤◌}
use lib.ListN.{length}
use Rattle.refinement.proofs.Seeing.{row_seen, rows_more, renaming_every}
use native.Mathlib.Omega.{arith}
use Rattle.refinement.proofs.line.rename_all.Goals as goal

pub first_alike-requires : goal.first_alike-requires
first_alike-requires c = let r : 4096 ≤ length c.loop-x.seen = omega arith in search row_seen

pub loop-x-preserved : goal.loop-x-preserved
loop-x-preserved c = (search rows_more, search renaming_every)
