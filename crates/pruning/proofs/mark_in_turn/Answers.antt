-- `mark_in_turn`: the laws of `Pruning` start, keep and end the loop.
use Rattle.pruning.proofs.Pruning.{pruning_start, pruning_canonical, pruning_drop, pruning_keep, pruning_all}
use Rattle.pruning.proofs.mark_in_turn.Goals as goal
use Rattle.pruning.proofs.mark_in_turn.Goals.{then-meet_if_needed, else-meet_if_needed}

pub loop-i-init : goal.loop-i-init
loop-i-init c = search pruning_start

pub meet_if_needed-requires-clause-canonical : goal.meet_if_needed-requires-clause-canonical
meet_if_needed-requires-clause-canonical c = (pruning_canonical c.loop-i.invariant c.loop-i-test.true).0

pub meet_if_needed-requires-clause-canonical_2 : goal.meet_if_needed-requires-clause-canonical_2
meet_if_needed-requires-clause-canonical_2 c = (pruning_canonical c.loop-i.invariant c.loop-i-test.true).1

pub meet_if_needed-requires-clause-canonical_3 : goal.meet_if_needed-requires-clause-canonical_3
meet_if_needed-requires-clause-canonical_3 c = (pruning_canonical c.loop-i.invariant c.loop-i-test.true).2

pub loop-i-preserved : goal.loop-i-preserved
loop-i-preserved c =
    elim c.if-meet_if_needed.branch [
      | then-meet_if_needed w ↦ rw (w.needed-is, w.kept-is) (pruning_keep c.loop-i.invariant c.loop-i-test.true w.if-meet_if_needed.true c.meet_if_needed.ensures)
      | else-meet_if_needed w ↦ rw (w.needed-is, w.kept-is) (pruning_drop c.loop-i.invariant c.loop-i-test.true w.if-meet_if_needed.false c.meet_if_needed.ensures)
    ]

pub returns : goal.returns
returns c = pruning_all c.loop-i.invariant c.loop-i-test.false
