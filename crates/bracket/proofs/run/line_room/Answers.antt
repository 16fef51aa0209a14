-- `run::line_room` meets its contract, by the laws of Stepping.
use Rattle.bracket.proofs.Stepping.{first_line_room, cells_line_room, maps_line_room}
use Rattle.bracket.proofs.run.line_room.Goals as goal

pub returns-then-standing-eq0 : goal.returns-then-standing-eq0
returns-then-standing-eq0 c = search first_line_room

pub returns-then-maps-tables : goal.returns-then-maps-tables
returns-then-maps-tables c = search cells_line_room

pub returns : goal.returns
returns c = search maps_line_room
