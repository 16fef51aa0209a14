-- `merge` meets its contract: putting the larger name under the smaller is a merge, by `relabelled_either` of the kernel crate.
use Rattle.kernel.proofs.Kernels.{relabelled_either}
use Rattle.equivalence.proofs.blocks.merge.Goals as goal

pub returns : goal.returns
returns c = search relabelled_either
