-- `operations`: the operations passed are joined, unless v and w are; o is where the next table begins.
use mathlib.Core.Path.{sym}
use Rattle.algebra.proofs.Accepted.{accepted_well_formed}
use Rattle.algebra.proofs.Tables.{start_first, start_next, start_room}
use Rattle.algebra.specs.Algebra.{algebra_of}
use Rattle.sweep.proofs.Images.{operation_inside, operations_none, operations_more, operations_halted}
use native.Mathlib.Omega.{arith}
use Rattle.sweep.proofs.Pass.operations.Goals as goal

pub loop-j-init : goal.loop-j-init
loop-j-init c = (sym (start_first c.args.self.now.n c.args.arities.now), operations_none c.args.arities.now c.requires.contexts c.requires.sweeping)

pub returns-then-halted : goal.returns-then-halted
returns-then-halted c = operations_halted c.args.arities.now c.requires.contexts c.requires.accepted c.loop-j.invariant.1 c.halted.ensures c.if-halted.true

pub table-requires-clause-table_inside : goal.table-requires-clause-table_inside
table-requires-clause-table_inside c = let k = c.loop-j-test.true in
    let p = c.requires in
    operation_inside c.args.arities.now p.accepted k c.loop-j.invariant.0 p.x_lt_n p.y_lt_n

pub table-requires-clause-s_bound : goal.table-requires-clause-s_bound
table-requires-clause-s_bound c = let k = c.loop-j-test.true in
    let p = c.requires in
    (accepted_well_formed (algebra_of c.args.self.now.n c.args.arities.now c.args.self.now.cells.now) c.requires.accepted).arity _ k

pub cells_of-o-requires-clause-s_bound : goal.cells_of-o-requires-clause-s_bound
cells_of-o-requires-clause-s_bound c = let ok = accepted_well_formed (algebra_of c.args.self.now.n c.args.arities.now c.args.self.now.cells.now) c.requires.accepted in
    ok.arity _ c.loop-j-test.true

pub overflow_add-o : goal.overflow_add-o
overflow_add-o c = let ok = accepted_well_formed (algebra_of c.args.self.now.n c.args.arities.now c.args.self.now.cells.now) c.requires.accepted in
    let l = c.loop-j in
    omega (arith, c.cells_of-o.ensures, l.invariant.0, ok.room, start_room c.args.self.now.n c.args.arities.now l.j c.loop-j-test.true)

pub loop-j-preserved : goal.loop-j-preserved
loop-j-preserved c = let l = c.loop-j in
    let k = c.loop-j-test.true in (
      omega (arith, c.cells_of-o.ensures, l.invariant.0, start_next c.args.self.now.n c.args.arities.now l.j k),
      operations_more c.args.arities.now c.requires.contexts c.requires.accepted k l.invariant.0 l.invariant.1 c.table.ensures,
    )
