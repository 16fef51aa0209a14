-- `quotient::tables::divide_tables` meets its contract. The invariant: the tables of the operations before the index are laid.
use Rattle.std.proofs.Common.{arith}
use Rattle.quotient.proofs.Operations.{divided_start, divided_fits, divided_more}
use Rattle.quotient.proofs.tables.divide_tables.Goals as goal

pub loop-arity-init : goal.loop-arity-init
loop-arity-init c = search divided_start

pub divide_table-requires : goal.divide_table-requires
divide_table-requires c =
    let s = c.loop-arity in
    let l = c.loop-arity-test.true in
    record { s_bound = s.invariant.fits.arity s.arity-index l; fits = divided_fits s.invariant l }

pub overflow_add-from : goal.overflow_add-from
overflow_add-from c = omega (arith, (divided_fits c.loop-arity.invariant c.loop-arity-test.true).source, c.power-from.ensures)

pub overflow_add-to : goal.overflow_add-to
overflow_add-to c = omega (arith, (divided_fits c.loop-arity.invariant c.loop-arity-test.true).target, c.power-to.ensures)

pub loop-arity-preserved : goal.loop-arity-preserved
loop-arity-preserved c = search divided_more
