-- `table`: by arity.
use Rattle.sweep.proofs.TableLaws.{unary_left, unary_right, rows_inside, unary_swept, rows_swept}
use Rattle.sweep.proofs.Pass.table.Goals as goal

pub bounds-self-images : goal.bounds-self-images
bounds-self-images c = search unary_left

pub bounds-self-images-then-s-eq1 : goal.bounds-self-images-then-s-eq1
bounds-self-images-then-s-eq1 c = search unary_right

pub returns-then-s-eq1 : goal.returns-then-s-eq1
returns-then-s-eq1 c = search unary_swept

pub rows-requires-clause-rows_inside : goal.rows-requires-clause-rows_inside
rows-requires-clause-rows_inside c = search rows_inside

pub returns : goal.returns
returns c = search rows_swept
