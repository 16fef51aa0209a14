-- `run::take_lines` meets its contract, by the laws of Gathering. The measure is how far the run is from its end.
use Prim.Native.Nat.{◌+◌, ◌≤◌}
use native.Mathlib.Omega.{arith}
use lib.ListN.{length}
use Rattle.bracket.proofs.Gathering.{lines_gathered_none, lines_gathered_more, lines_gathered_over, lines_gathered_short, lines_gathered_fits, lines_gathered_lent, line_less}
use Rattle.bracket.proofs.run.take_lines.Goals as goal

pub loop-standing-init : goal.loop-standing-init
loop-standing-init c = search lines_gathered_none

pub returns-then-out-put : goal.returns-then-out-put
returns-then-out-put c = search lines_gathered_short

pub take_line-next-requires-clause-lent : goal.take_line-next-requires-clause-lent
take_line-next-requires-clause-lent c = let p = c.requires in
    lines_gathered_lent _ _ _ _ _ _ _ _ _ _ c.loop-standing.invariant p.lent c.loop-standing-test.true _ c.line_room.ensures c.if-out-put.false

pub overflow_add-put : goal.overflow_add-put
overflow_add-put c = let h : c.loop-standing.put + c.take_line-next.result.wrote ≤ length c.loop-standing.out = search lines_gathered_fits in
    omega (arith, c.loop-standing.invariant.laid.long, c.well_formed)

pub loop-standing-smaller : goal.loop-standing-smaller
loop-standing-smaller c = search line_less

pub loop-standing-preserved : goal.loop-standing-preserved
loop-standing-preserved c = search lines_gathered_more

pub returns : goal.returns
returns c = search lines_gathered_over
