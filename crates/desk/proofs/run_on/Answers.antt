-- `run_on` meets its contract, by the laws of Running. The measure is how far the run is from its end.
use mathlib.Core.Path.{refl}
use borrow.Author.Rules.{rules}
use Rattle.desk.proofs.Running.{most_able, lends, part_next, part_within, count_fits, fill_nearer, written_on, lends_most_on, written_ends}
use Rattle.desk.proofs.run_on.Goals as goal

pub loop-standing-init : goal.loop-standing-init
loop-standing-init c = (search rules, (search rules, (refl, (refl, refl))))

pub slice_bounds-write_next-end : goal.slice_bounds-write_next-end
slice_bounds-write_next-end c = search (part_within, most_able, lends)

pub write_next-written-requires-clause-next : goal.write_next-written-requires-clause-next
write_next-written-requires-clause-next c = let l = c.loop-standing.invariant in
    part_next _ _ _ _ _ _ l.0 l.1.0.lends _ (most_able _ _ _ _ _ _ l.0 l.1.0) c.loop-standing-test.true _ _ _ _ c.fill-filled.ensures

pub write_next-written-requires-clause-part_bound : goal.write_next-written-requires-clause-part_bound
write_next-written-requires-clause-part_bound c = search (count_fits, most_able, lends)

pub loop-standing-smaller : goal.loop-standing-smaller
loop-standing-smaller c = search (fill_nearer, most_able, lends)

pub loop-standing-preserved : goal.loop-standing-preserved
loop-standing-preserved c = (search (written_on, most_able, lends), (search lends_most_on, search rules))

pub returns : goal.returns
returns c = search written_ends
