-- `run::can_fill` meets its contract, by the laws of Calling.
use Rattle.bracket.proofs.Calling.{run_over, past_text, no_size, size_above, operations_above, operations_past, cells_above, cells_past, few_arities, little_room, last_test}
use Rattle.bracket.proofs.run.can_fill.Goals as goal

pub returns-then-not-standing : goal.returns-then-not-standing
returns-then-not-standing c = search run_over

pub returns-then-text-standing : goal.returns-then-text-standing
returns-then-text-standing c = search past_text

pub returns-then-standing-lt1 : goal.returns-then-standing-lt1
returns-then-standing-lt1 c = search no_size

pub returns-then-standing-gt-MAX_SIZE : goal.returns-then-standing-gt-MAX_SIZE
returns-then-standing-gt-MAX_SIZE c = search size_above

pub returns-then-standing-gt-MAX_OPERATIONS : goal.returns-then-standing-gt-MAX_OPERATIONS
returns-then-standing-gt-MAX_OPERATIONS c = search operations_above

pub returns-then-standing : goal.returns-then-standing
returns-then-standing c = search operations_past

pub returns-then-standing-gt-MAX_CELLS : goal.returns-then-standing-gt-MAX_CELLS
returns-then-standing-gt-MAX_CELLS c = search cells_above

pub returns-then-standing-2 : goal.returns-then-standing-2
returns-then-standing-2 c = search cells_past

pub returns-then-arities-lt-MAX_OPERATIONS : goal.returns-then-arities-lt-MAX_OPERATIONS
returns-then-arities-lt-MAX_OPERATIONS c = search few_arities

pub returns-then-room-text : goal.returns-then-room-text
returns-then-room-text c = search little_room

pub returns : goal.returns
returns c = search last_test
