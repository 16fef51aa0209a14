-- `write_small` meets its contract, by the laws of Spacing.
use Rattle.writer.proofs.Spacing.{small_of_one, small_of_two}
use Rattle.writer.proofs.write_small.Goals as goal

pub returns-then-v-lt10-clause-laid_open : goal.returns-then-v-lt10-clause-laid_open
returns-then-v-lt10-clause-laid_open c = search small_of_one

pub returns-clause-laid_open : goal.returns-clause-laid_open
returns-clause-laid_open c = search small_of_two
