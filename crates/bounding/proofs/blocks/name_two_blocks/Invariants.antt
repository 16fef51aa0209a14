-- `name_two_blocks`: byte by byte, by the laws of what is filled.
use mathlib.Core.Path.{◌≡◌}
use lib.ListN.{length}
use Rattle.equivalence.specs.Equivalence.{byte}
use Rattle.kernel.specs.InnerKernel.{Filled}
use Rattle.bounding.specs.InnerBlocks.{one_of}
use Rattle.bounding.proofs.blocks.name_two_blocks.Given as goal

abbrev pub invariant-loop-x : goal.invariant-loop-x
invariant-loop-x l = (length l.out ≡ length l.initial.out) × Filled l.x (λ i. one_of l.r l.q (byte l.m i)) (byte l.initial.out) (byte l.out)
