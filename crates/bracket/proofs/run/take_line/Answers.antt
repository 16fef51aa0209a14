-- `run::take_line` meets its contract, by the laws of Gathering.
use Rattle.bracket.proofs.Gathering.{line_taken}
use Rattle.bracket.proofs.run.take_line.Goals as goal

pub returns : goal.returns
returns c = search line_taken
