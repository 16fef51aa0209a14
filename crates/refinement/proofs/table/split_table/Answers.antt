-- `split_table` meets its contract, by the arity.
use Rattle.refinement.proofs.Tables.{room_one, room_three}
use Rattle.refinement.proofs.table.split_table.Goals as goal

pub split_unary-requires-clause-n_in_bounds : goal.split_unary-requires-clause-n_in_bounds
split_unary-requires-clause-n_in_bounds c = search room_one

pub split_ternary-requires-clause-n_in_bounds : goal.split_ternary-requires-clause-n_in_bounds
split_ternary-requires-clause-n_in_bounds c = search room_three
