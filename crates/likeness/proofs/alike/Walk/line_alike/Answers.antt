-- `line_alike` meets its contract. The loop has compared the cells of the first i others.
use Rattle.likeness.proofs.Likeness.{line_all, line_apart}
use Rattle.likeness.proofs.alike.Walk.line_alike.Goals as goal

pub returns-then-self-image : goal.returns-then-self-image
returns-then-self-image c = search line_apart

pub returns : goal.returns
returns c = search line_all
