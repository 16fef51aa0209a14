-- `table_alike` meets its contract, by the arity.
use Rattle.refinement.proofs.Tables.{room_one, room_three}
use Rattle.likeness.proofs.alike.Walk.table_alike.Goals as goal

pub line_alike-requires-clause-n_in_bounds : goal.line_alike-requires-clause-n_in_bounds
line_alike-requires-clause-n_in_bounds c = search room_one

pub solid_alike-requires-clause-n_in_bounds : goal.solid_alike-requires-clause-n_in_bounds
solid_alike-requires-clause-n_in_bounds c = search room_three
