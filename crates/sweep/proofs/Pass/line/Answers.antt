-- `line`: the places passed are joined, unless v and w are, and everything that joins all of them, and heeds the marks, has made the merges.
use Rattle.sweep.proofs.Crossings.{line_more, line_halted}
use native.Mathlib.Omega.{arith}
use Rattle.sweep.proofs.Pass.line.Goals as goal

pub returns-then-halted : goal.returns-then-halted
returns-then-halted c = let p = c.requires in
    let d = line_more p.contexts p.lines_inside c.loop-j.invariant.1 c.in-Some.ensures.passed c.in-Some.ensures.in_line c.step_at.ensures in
    line_halted p.contexts p.lines_inside d c.halted.ensures c.if-halted.true

pub loop-j-preserved : goal.loop-j-preserved
loop-j-preserved c = let p = c.requires in
    (omega (arith, c.in-Some.ensures.in_line), line_more p.contexts p.lines_inside c.loop-j.invariant.1 c.in-Some.ensures.passed c.in-Some.ensures.in_line c.step_at.ensures)
