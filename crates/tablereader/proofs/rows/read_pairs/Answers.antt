-- `rows::read_pairs` meets its contract, by the laws of Begun and Pairs.
use Rattle.tablereader.proofs.Pairs.{pair_room, pair_room_second, pair_more, within_two, within_more}
use Rattle.tablereader.proofs.Begun.{begun_none}
use borrow.Author.Rules.{rules}
use Rattle.tablereader.proofs.rows.read_pairs.Goals as goal

pub loop-more-init : goal.loop-more-init
loop-more-init c = (search begun_none, search rules)

pub next_pair-requires : goal.next_pair-requires
next_pair-requires c = search within_two

pub bounds-cells-here : goal.bounds-cells-here
bounds-cells-here c = let t = c.in-Some.ensures.read in search pair_room

pub bounds-cells-here-in-loop-more : goal.bounds-cells-here-in-loop-more
bounds-cells-here-in-loop-more c = let t = c.in-Some.ensures.read in search pair_room_second

pub loop-more-preserved : goal.loop-more-preserved
loop-more-preserved c =
    let t = c.in-Some.ensures.read in (search pair_more, within_more _ _ _ _ c.loop-more.invariant.1 c.loop-more-test.true _ c.in-Some.ensures)
