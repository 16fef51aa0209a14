-- `split_blocks` meets its contract: the new names are copied over the old ones.
use native.Mathlib.Omega.{arith}
use lib.ListN.{get_or-replicate}
use Rattle.refinement.proofs.Splits.{alike_copied}
use Rattle.refinement.proofs.line.split_blocks.Goals as goal

pub rename_all-requires-clause-by_index : goal.rename_all-requires-clause-by_index
rename_all-requires-clause-by_index c = λ v l. get_or-replicate 4096 v 64 0 l

pub returns-clause-by_index : goal.returns-clause-by_index
returns-clause-by_index c = alike_copied _ _ (omega arith) c.copy_from_slice.ensures.after c.rename_all.ensures
