-- `short::write_digit` meets its contract, by a law of Spacing.
use Rattle.writer.proofs.Spacing.{digit_after_space}
use Rattle.writer.proofs.short.write_digit.Goals as goal

pub returns-clause-laid : goal.returns-clause-laid
returns-clause-laid c = search digit_after_space
