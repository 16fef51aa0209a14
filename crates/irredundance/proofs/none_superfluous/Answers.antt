-- `none_superfluous`: the laws of `Needed` start, keep and end the loop.
use Rattle.irredundance.proofs.Superfluous.{needed_start, needed_canonical, needed_all, needed_this, needed_after, needed_fails, needed_more}
use Rattle.irredundance.proofs.none_superfluous.Goals as goal

pub loop-i-init : goal.loop-i-init
loop-i-init c = search needed_start

pub meets_in_identity-requires-clause-canonical : goal.meets_in_identity-requires-clause-canonical
meets_in_identity-requires-clause-canonical c = needed_canonical c.loop-i.invariant

pub meets_in_identity-requires-clause-canonical_2 : goal.meets_in_identity-requires-clause-canonical_2
meets_in_identity-requires-clause-canonical_2 c = needed_after c.loop-i.invariant c.loop-i-test.true

pub returns-then-meets_in_identity : goal.returns-then-meets_in_identity
returns-then-meets_in_identity c = needed_fails c.loop-i.invariant c.loop-i-test.true c.meets_in_identity.ensures c.if-meets_in_identity.true

pub meet_with-requires-clause-canonical : goal.meet_with-requires-clause-canonical
meet_with-requires-clause-canonical c = needed_this c.loop-i.invariant c.loop-i-test.true

pub meet_with-requires-clause-canonical_2 : goal.meet_with-requires-clause-canonical_2
meet_with-requires-clause-canonical_2 c = needed_canonical c.loop-i.invariant

pub loop-i-preserved : goal.loop-i-preserved
loop-i-preserved c = needed_more c.loop-i.invariant c.loop-i-test.true c.meets_in_identity.ensures c.if-meets_in_identity.false c.meet_with.ensures

pub returns : goal.returns
returns c = needed_all c.loop-i.invariant c.loop-i-test.false
