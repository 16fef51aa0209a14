-- `cross`: as `line`, on both pairs of lines.
use Rattle.sweep.proofs.Crossings.{cross_rest, cross_more, cross_halted}
use native.Mathlib.Omega.{arith}
use Rattle.sweep.proofs.Pass.cross.Goals as goal

pub returns-then-halted : goal.returns-then-halted
returns-then-halted c = let p = c.requires in
    let d = cross_more p.contexts p.lines_inside p.lines_inside_2 c.loop-j.invariant.1 c.in-Some.ensures.passed c.in-Some.ensures.in_line c.step_both.ensures in
    cross_halted p.contexts p.lines_inside p.lines_inside_2 d c.halted.ensures c.if-halted.true

pub loop-j-preserved : goal.loop-j-preserved
loop-j-preserved c = let p = c.requires in
    (omega (arith, c.in-Some.ensures.in_line), cross_more p.contexts p.lines_inside p.lines_inside_2 c.loop-j.invariant.1 c.in-Some.ensures.passed c.in-Some.ensures.in_line c.step_both.ensures)

pub returns : goal.returns
returns c = cross_rest c.loop-j.invariant.1 c.in_default.ensures.passed (omega arith)
