-- `write_by_table` meets its contract, by the laws of Spacing.
use Rattle.writer.proofs.Spacing.{spaced_start, spaced_more, spaced_all}
use Rattle.writer.proofs.Lengths.{next_room}
use Rattle.writer.proofs.Bounds.{each_below}
use Rattle.writer.proofs.write_by_table.Goals as goal

pub loop-v-init : goal.loop-v-init
loop-v-init c = search spaced_start

pub write_small-at-requires-clause-v_bound : goal.write_small-at-requires-clause-v_bound
write_small-at-requires-clause-v_bound c = (search each_below, search next_room)

pub loop-v-preserved : goal.loop-v-preserved
loop-v-preserved c = search spaced_more

pub returns-clause-laid_open : goal.returns-clause-laid_open
returns-clause-laid_open c = search spaced_all
