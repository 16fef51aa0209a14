-- `steps::after_line` meets its contract, by the laws of Stepping.
use Rattle.bracket.proofs.Stepping.{line_refused, line_accepted}
use Rattle.bracket.proofs.steps.after_line.Goals as goal

pub returns-in-Ok : goal.returns-in-Ok
returns-in-Ok c = search line_accepted

pub returns-in-Err : goal.returns-in-Err
returns-in-Err c = search line_refused
