-- `lines_alike` meets its contract. The loop has compared the rows of the names below x.
use borrow.Author.Rules.{rules}
use Rattle.likeness.proofs.Likeness.{names_more}
use Rattle.likeness.proofs.alike.Walk.lines_alike.Goals as goal
use Rattle.likeness.proofs.alike.Walk.lines_alike.Goals.{else-self-x-via-then-self-x+else-not-line_alike, else-self-x-via-else-self-x}

pub loop-x-preserved : goal.loop-x-preserved
loop-x-preserved c =
    elim c.else-self-x.branch [
      | else-self-x-via-then-self-x+else-not-line_alike w ↦ names_more c.loop-x.invariant (λ e. w.line_alike.ensures.yes (search rules))
      | else-self-x-via-else-self-x w ↦ names_more c.loop-x.invariant (λ e. absurd (w.if-self-x.false e))
    ]
