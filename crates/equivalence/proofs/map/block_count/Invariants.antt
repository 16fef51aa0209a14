-- `block_count` meets its contract. The loop has counted the names below x.
use Rattle.std.proofs.Common.{◌≡◌}
use Rattle.equivalence.specs.Equivalence.{byte}
use Rattle.kernel.specs.InnerKernel.{names}
use Rattle.equivalence.proofs.map.block_count.Given as goal

abbrev pub invariant-loop-x : goal.invariant-loop-x
invariant-loop-x l = l.count ≡ names l.x (byte l.m)
