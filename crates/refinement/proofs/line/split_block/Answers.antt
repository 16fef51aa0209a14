-- `split_block` meets its contract: the new names are copied over the old ones.
use Prim.Native.Nat.{◌+◌, ◌*◌}
use lib.ListN.{get_or-replicate}
use Rattle.refinement.proofs.Splits.{alike_copied}
use native.Mathlib.Omega.{arith}
use Rattle.refinement.proofs.line.split_block.Goals as goal

pub rename_block-requires-clause-by_index : goal.rename_block-requires-clause-by_index
rename_block-requires-clause-by_index c = λ v l. get_or-replicate 64 (0 * 64 + v) 64 0 (omega arith)

pub returns-clause-by_index : goal.returns-clause-by_index
returns-clause-by_index c = alike_copied _ _ (omega arith) c.copy_from_slice.ensures.after c.rename_block.ensures
