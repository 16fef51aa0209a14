-- `stretch_alike` meets its contract. The loop has compared the first i cells.
use native.Mathlib.Omega.{arith}
use borrow.Author.Rules.{rules}
use Rattle.likeness.proofs.Likeness.{turn_apart, turn_more, turn_last}
use Rattle.likeness.proofs.alike.Walk.stretch_alike.Goals as goal

pub returns-then-not-few_alike : goal.returns-then-not-few_alike
returns-then-not-few_alike c = turn_apart _ c.few_alike.ensures c.if-not-few_alike.true (omega arith)

pub loop-i-preserved : goal.loop-i-preserved
loop-i-preserved c = (omega arith, turn_more _ c.few_alike.ensures c.if-not-few_alike.false (search rules))

pub returns : goal.returns
returns c = turn_last _ c.few_alike-2.ensures (omega arith) (search rules)
