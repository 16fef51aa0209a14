-- `run` meets its contract, by the laws of Running. The measure is how far the run is from its end.
use mathlib.Core.Path.{refl}
use borrow.Author.Rules.{rules}
use Rattle.desk.proofs.Running.{written_begins, part_next, part_within, count_fits, fill_nearer, written_on, lends_on}
use Rattle.desk.proofs.run.Goals as goal

pub loop-arities-init : goal.loop-arities-init
loop-arities-init c = (search written_begins, (search rules, (refl, (refl, refl))))

pub slice_bounds-write_next-end : goal.slice_bounds-write_next-end
slice_bounds-write_next-end c = search part_within

pub write_next-written-requires-clause-next : goal.write_next-written-requires-clause-next
write_next-written-requires-clause-next c = let l = c.loop-arities.invariant in
    part_next _ _ _ _ _ _ l.0 l.1.0 _ c.can_fill.ensures c.loop-arities-test.true _ _ _ _ c.fill-filled.ensures

pub write_next-written-requires-clause-part_bound : goal.write_next-written-requires-clause-part_bound
write_next-written-requires-clause-part_bound c = search count_fits

pub loop-arities-smaller : goal.loop-arities-smaller
loop-arities-smaller c = search fill_nearer

pub loop-arities-preserved : goal.loop-arities-preserved
loop-arities-preserved c = (search written_on, (search lends_on, search rules))
