-- `short_rows::read_short` meets its contract, by the laws of ShortRows.
use native.Mathlib.Omega.{arith}
use Rattle.tablereader.proofs.Begun.{begun_none}
use Rattle.tablereader.proofs.ShortRows.{item_low, item_small, short_room, short_more, short_none, short_all}
use borrow.Author.Rules.{rules}
use Rattle.tablereader.proofs.short_rows.read_short.Goals as goal

pub returns-then-not-is_short : goal.returns-then-not-is_short
returns-then-not-is_short c = search begun_none

pub loop-i-init : goal.loop-i-init
loop-i-init c = (search short_none, search rules)

pub overflow_sub-cells : goal.overflow_sub-cells
overflow_sub-cells c = let k = c in
    omega (arith, item_low _ _ _ _ k.is_short.ensures k.if-not-is_short.false-raw _ c.loop-i-test.true _ c.two_bytes.ensures)

pub overflow_cast-cells : goal.overflow_cast-cells
overflow_cast-cells c = let k = c in
    omega (arith, item_small _ _ _ _ k.is_short.ensures k.if-not-is_short.false-raw _ c.loop-i-test.true _ c.two_bytes.ensures)

pub bounds-cells-put : goal.bounds-cells-put
bounds-cells-put c = search short_room

pub loop-i-preserved : goal.loop-i-preserved
loop-i-preserved c = (search short_more, search rules)

pub returns : goal.returns
returns c = search short_all
