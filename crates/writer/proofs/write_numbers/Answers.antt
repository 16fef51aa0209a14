-- `write_numbers` meets its contract, by the laws of Spacing.
use Rattle.writer.proofs.Spacing.{spaced_start, spaced_all}
use Rattle.writer.proofs.Lengths.{next_room, spaced_next}
use Rattle.writer.proofs.write_numbers.Goals as goal

pub loop-v-init : goal.loop-v-init
loop-v-init c = search spaced_start

pub write_spaced_number-at-requires : goal.write_spaced_number-at-requires
write_spaced_number-at-requires c = search next_room

pub loop-v-preserved : goal.loop-v-preserved
loop-v-preserved c = search spaced_next

pub returns-clause-laid_open : goal.returns-clause-laid_open
returns-clause-laid_open c = search spaced_all
