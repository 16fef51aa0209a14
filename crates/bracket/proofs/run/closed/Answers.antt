-- `run::closed` meets its contract, by the laws of Gathering.
use Rattle.bracket.proofs.Gathering.{closed_open, closed_over}
use Rattle.bracket.proofs.run.closed.Goals as goal

pub returns-then-standing-end : goal.returns-then-standing-end
returns-then-standing-end c = search closed_open

pub returns : goal.returns
returns c = search closed_over
