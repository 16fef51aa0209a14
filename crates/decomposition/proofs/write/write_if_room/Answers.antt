-- `write_if_room`: there is too little room, or all are written.
use Rattle.decomposition.proofs.Finding.{chosen_counted, room_short, room_enough}
use Rattle.decomposition.proofs.write.write_if_room.Goals as goal

pub overflow_mul-kept : goal.overflow_mul-kept
overflow_mul-kept c = search chosen_counted

pub returns-then-out-kept : goal.returns-then-out-kept
returns-then-out-kept c = search room_short

pub returns : goal.returns
returns c = search room_enough
