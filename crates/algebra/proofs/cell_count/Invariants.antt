-- `cell_count`: the sum is where the next table begins.
use Rattle.std.proofs.Common.{◌≡◌, take}
use Rattle.algebra.specs.Algebra.{cell_count}
use Rattle.algebra.proofs.cell_count.Given as goal

abbrev pub invariant-loop-s : goal.invariant-loop-s
invariant-loop-s l = l.sum ≡ cell_count l.n (take l.s-index l.arities)
