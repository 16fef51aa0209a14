-- `gather_kept`: the laws of `Gathering` keep and end the loop; in arrays of zeros nothing is kept.
use lib.ListN.{get_or-replicate}
use native.Mathlib.Omega.{arith}
use Rattle.keeping.proofs.Keepings.{keeping_none}
use Rattle.gathering.proofs.Gathering.{gathering_canonical, gathering_wanted, gathering_meetable, gathering_unmet, gathering_stop, gathering_more, gathering_all}
use borrow.Author.Rules.{rules}
use Rattle.gathering.proofs.gather_kept.gather_kept.Goals as goal

pub loop-kept-init : goal.loop-kept-init
loop-kept-init c =
    let g = c.requires.gathering in
    record {
      room = c.requires.in_bounds;
      keeping = keeping_none g.most (search rules) (search rules) (λ p l. get_or-replicate 2016 p 0 0 l);
      gathering = g;
    }

pub is_identity-requires : goal.is_identity-requires
is_identity-requires c = let k = gathering_canonical c.loop-kept.invariant.gathering in record { n_in_bounds = k.0; canonical = k.1 }

pub separate_next-requires-clause-wanted : goal.separate_next-requires-clause-wanted
separate_next-requires-clause-wanted c = search gathering_wanted

pub overflow_mul-at : goal.overflow_mul-at
overflow_mul-at c = omega (arith, c.loop-kept.invariant.gathering.small)

pub meet_next-requires : goal.meet_next-requires
meet_next-requires c = let i = c.loop-kept.invariant in
    gathering_meetable i.gathering c.is_identity.ensures c.loop-kept-test.true c.separate_next.ensures.separated i.room

pub common-requires : goal.common-requires
common-requires c = let i = c.loop-kept.invariant in
    gathering_unmet i.gathering c.is_identity.ensures c.loop-kept-test.true c.separate_next.ensures.separated c.meet_next.ensures c.if-meet_next.true

pub returns-then-meet_next : goal.returns-then-meet_next
returns-then-meet_next c = search gathering_stop

pub loop-kept-preserved : goal.loop-kept-preserved
loop-kept-preserved c = let i = c.loop-kept.invariant in
    record {
      room = search rules;
      keeping = search rules;
      gathering = gathering_more i.gathering c.is_identity.ensures c.loop-kept-test.true c.separate_next.ensures.separated c.meet_next.ensures c.if-meet_next.false;
    }

pub returns : goal.returns
returns c = search gathering_all
