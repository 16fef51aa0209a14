-- `taking::take_size_line` meets its contract, by the laws of TakenLines.
use Rattle.reader.proofs.TakenLines.{size_faulty, size_line_refused, size_taken}
use Rattle.reader.proofs.taking.take_size_line.Goals as goal

pub returns-in_default : goal.returns-in_default
returns-in_default c = size_faulty _ _ c.in_default.ensures

pub returns-then-not-is_size : goal.returns-then-not-is_size
returns-then-not-is_size c = let n = c.in-Some.ensures in search size_line_refused

pub returns : goal.returns
returns c = let n = c.in-Some.ensures in search size_taken
