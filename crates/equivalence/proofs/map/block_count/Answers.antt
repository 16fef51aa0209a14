-- `block_count` meets its contract. The loop has counted the names below x, by the laws of Bytes.
use Rattle.std.proofs.Common.{◌+◌, arith, refl}
use Rattle.equivalence.specs.Equivalence.{byte}
use Rattle.kernel.specs.InnerKernel.{names}
use Rattle.equivalence.proofs.Bytes.{names_more}
use Rattle.kernel.proofs.Names.{names_most}
use Rattle.equivalence.proofs.map.block_count.Goals as goal

pub loop-x-init : goal.loop-x-init
unfolding names
loop-x-init c = refl

pub overflow_add-count : goal.overflow_add-count
overflow_add-count c = omega (arith, names_more c.loop-x.x (byte c.args.m.now), names_most (c.loop-x.x + 1) (byte c.args.m.now))

pub loop-x-preserved : goal.loop-x-preserved
loop-x-preserved c = omega (arith, names_more c.loop-x.x (byte c.args.m.now))
