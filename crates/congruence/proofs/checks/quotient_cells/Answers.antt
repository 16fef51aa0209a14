-- `quotient_cells`: the cells over the map's names are those over its blocks.
use Prim.Native.Nat.{ℕ}
use mathlib.Core.Path.{ap, ◌∙◌}
use native.Mathlib.Omega.{arith}
use Rattle.equivalence.specs.Equivalence.{byte}
use Rattle.equivalence.proofs.Bytes.{names_le, names_blocks}
use Rattle.algebra.specs.Algebra.{cell_count}
use Rattle.congruence.proofs.checks.quotient_cells.Goals as goal

pub cell_count-requires-clause-n_bound : goal.cell_count-requires-clause-n_bound
cell_count-requires-clause-n_bound c = omega (arith, c.block_count.ensures, names_le c.args.n (byte c.args.map.now))

pub returns : goal.returns
returns c = c.cell_count.ensures ∙ ap (λ (b : ℕ). cell_count b c.args.arities.now) (c.block_count.ensures ∙ names_blocks _ _)
