-- `write_spaced_number` meets its contract, by the laws of Spacing.
use Rattle.writer.proofs.Spacing.{number_after_space}
use Rattle.writer.proofs.write_spaced_number.Goals as goal

pub returns-clause-laid : goal.returns-clause-laid
returns-clause-laid c = search number_after_space
