-- `gather`: the laws of `Gathering` start, keep, hand over and end the loop.
use native.Mathlib.Omega.{arith}
use Rattle.algebra.proofs.Accepted.{accepted_well_formed}
use Rattle.gathering.proofs.Gathering.{gathering_start, gathering_canonical, gathering_here, gathered_on, gathering_wanted, gathering_meetable, gathering_unmet, gathering_stop, gathering_more, gathering_all}
use borrow.Author.Rules.{rules}
use Rattle.gathering.proofs.gather.gather.Goals as goal

pub few_trials-few-requires : goal.few_trials-few-requires
few_trials-few-requires c = (accepted_well_formed _ c.requires.accepted).most

pub loop-met-init : goal.loop-met-init
loop-met-init c = record { room = search rules; tried = search rules; gathering = search gathering_start }

pub is_identity-requires : goal.is_identity-requires
is_identity-requires c = let k = gathering_canonical c.loop-met.invariant.gathering in record { n_in_bounds = k.0; canonical = k.1 }

pub gather_kept-requires-clause-gathering : goal.gather_kept-requires-clause-gathering
gather_kept-requires-clause-gathering c = gathering_here c.loop-met.invariant.gathering

pub returns-then-is_slow : goal.returns-then-is_slow
returns-then-is_slow c = search gathered_on

pub separate_next-trials-requires : goal.separate_next-trials-requires
separate_next-trials-requires c = search gathering_wanted

pub overflow_mul-at : goal.overflow_mul-at
overflow_mul-at c = omega (arith, c.loop-met.invariant.gathering.small)

pub meet_next-requires : goal.meet_next-requires
meet_next-requires c = let i = c.loop-met.invariant in
    gathering_meetable i.gathering c.is_identity.ensures c.loop-met-test.true c.separate_next-trials.ensures.separated i.room

pub common-requires : goal.common-requires
common-requires c = let i = c.loop-met.invariant in
    gathering_unmet i.gathering c.is_identity.ensures c.loop-met-test.true c.separate_next-trials.ensures.separated c.meet_next.ensures c.if-meet_next.true

pub returns-then-meet_next : goal.returns-then-meet_next
returns-then-meet_next c = search gathering_stop

pub loop-met-preserved : goal.loop-met-preserved
loop-met-preserved c = let i = c.loop-met.invariant in
    record {
      room = search rules;
      tried = search rules;
      gathering = gathering_more i.gathering c.is_identity.ensures c.loop-met-test.true c.separate_next-trials.ensures.separated c.meet_next.ensures c.if-meet_next.false;
    }

pub returns : goal.returns
returns c = search gathering_all
