-- `cells_of`: the powers up to the third.
use Rattle.sweep.proofs.TableLaws.{unary_cells, ternary_cells}
use Rattle.sweep.proofs.tables.cells_of.Goals as goal

pub returns-then-s-eq1 : goal.returns-then-s-eq1
returns-then-s-eq1 c = unary_cells c.args.n c.if-s-eq1.true

pub returns-then-s-eq3 : goal.returns-then-s-eq3
returns-then-s-eq3 c = ternary_cells c.args.n c.if-s-eq3.true
