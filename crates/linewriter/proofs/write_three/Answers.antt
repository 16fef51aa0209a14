-- `write_three` meets its contract, by the laws of Spacing.
use Rattle.writer.proofs.Spacing.{three_numbers}
use Rattle.linewriter.proofs.write_three.Goals as goal

pub returns-clause-laid : goal.returns-clause-laid
returns-clause-laid c = search three_numbers
