-- `cell_count`: the sum is where the next table begins.
use Rattle.std.proofs.Common.{arith, sym}
use Rattle.algebra.proofs.Tables.{start_first, summed_more, summed_small}
use Rattle.algebra.proofs.cell_count.Goals as goal

pub loop-s-init : goal.loop-s-init
loop-s-init c = sym (search start_first)

pub overflow_add-sum : goal.overflow_add-sum
overflow_add-sum c = let p = c.requires in
    omega (arith, summed_small _ _ p.n_bound p.by_index _ p.arities_len_bound c.loop-s-test.true c.loop-s.invariant c.power-sum.ensures)

pub loop-s-preserved : goal.loop-s-preserved
loop-s-preserved c = search summed_more
