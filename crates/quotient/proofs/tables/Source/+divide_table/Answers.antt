-- `quotient::tables::Source::divide_table` meets its contract. The measure is the arity; the invariant: the tables of k blocks are laid.
use Rattle.std.proofs.Common.{suc, ◌-◌, refl, ◌∙◌, arith}
use Rattle.quotient.proofs.Walks.{fits_of_one, fits_of, laid_of_none, laid_of_one, laid_of, walked_start, walked_fits, walked_more, walked_all}
use Rattle.quotient.proofs.tables.Source.+divide_table.Goals.{then-s-eq2, else-s-eq2}
use Rattle.quotient.proofs.tables.Source.+divide_table.Goals as goal

pub returns-then-s-eq0 : goal.returns-then-s-eq0
returns-then-s-eq0 t c = laid_of_none _ _ _ _ _ _ c.if-s-eq0.true c.divide_cell.ensures

pub divide_row-requires : goal.divide_row-requires
divide_row-requires t c = fits_of_one c.if-s-eq1.true c.args.self.now.right c.requires.fits

pub returns-then-s-eq1 : goal.returns-then-s-eq1
returns-then-s-eq1 t c = laid_of_one _ _ _ _ _ _ c.if-s-eq1.true c.divide_row.ensures

pub loop-k-init : goal.loop-k-init
loop-k-init t c =
    walked_start c.args.self.now.right (fits_of (suc (c.args.s - 1)) (omega arith) c.requires.fits) c.power-width.ensures c.power-height.ensures (omega arith)

pub overflow_mul-inner : goal.overflow_mul-inner
overflow_mul-inner t c = omega (arith, (walked_fits c.loop-k.invariant _ c.loop-k-test.true refl).source)

pub overflow_add-inner : goal.overflow_add-inner
overflow_add-inner t c = omega (arith, (walked_fits c.loop-k.invariant _ c.loop-k-test.true refl).source)

pub overflow_mul-place : goal.overflow_mul-place
overflow_mul-place t c = omega (arith, (walked_fits c.loop-k.invariant _ c.loop-k-test.true refl).target)

pub overflow_add-place : goal.overflow_add-place
overflow_add-place t c = omega (arith, (walked_fits c.loop-k.invariant _ c.loop-k-test.true refl).target)

pub divide_table-requires : goal.divide_table-requires
divide_table-requires t c =
    (omega arith, (omega arith, walked_fits c.loop-k.invariant _ c.loop-k-test.true refl))

pub divide_row-requires-then-s-eq2 : goal.divide_row-requires-then-s-eq2
divide_row-requires-then-s-eq2 t c =
    fits_of_one (omega (arith, c.if-s-eq2.true)) c.args.self.now.right (walked_fits c.loop-k.invariant _ c.loop-k-test.true refl)

pub loop-k-preserved : goal.loop-k-preserved
loop-k-preserved t c =
    elim c.if-s-eq2.branch [
      | then-s-eq2 w ↦ walked_more c.loop-k.invariant _ _ c.loop-k-test.true refl (w.out-is ∙ laid_of_one _ _ _ _ _ _ (omega (arith, w.if-s-eq2.true)) w.divide_row-then-s-eq2.ensures) (omega arith)
      | else-s-eq2 w ↦ walked_more c.loop-k.invariant _ _ c.loop-k-test.true refl (w.out-is ∙ w.divide_table.ensures) (omega arith)
    ]

pub returns : goal.returns
returns t c = laid_of _ _ _ _ _ _ (suc (c.args.s - 1)) (omega arith) (walked_all c.loop-k.invariant c.loop-k-test.false)
