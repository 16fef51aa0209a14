-- `short::write_digits` meets its contract, by the laws of Spacing: each number is below 10.
use Rattle.writer.proofs.Spacing.{spaced_start, spaced_all}
use Rattle.writer.proofs.Lengths.{next_room, spaced_next}
use Rattle.writer.proofs.Bounds.{each_below}
use Rattle.writer.proofs.short.write_digits.Goals as goal

pub loop-v-init : goal.loop-v-init
loop-v-init c = search spaced_start

pub write_digit-at-requires : goal.write_digit-at-requires
write_digit-at-requires c = (search each_below, search next_room)

pub loop-v-preserved : goal.loop-v-preserved
loop-v-preserved c = search spaced_next

pub returns-clause-laid_open : goal.returns-clause-laid_open
returns-clause-laid_open c = search spaced_all
