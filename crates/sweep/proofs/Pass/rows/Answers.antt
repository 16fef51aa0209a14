-- `rows`: the rows passed are joined, unless v and w are.
use Rattle.sweep.proofs.TableLaws.{rows_more, rows_halted}
use Rattle.sweep.proofs.Pass.rows.Goals as goal

pub returns-then-halted : goal.returns-then-halted
returns-then-halted c = search rows_halted

pub loop-i-preserved : goal.loop-i-preserved
loop-i-preserved c = let p = c.requires in
    let k = c.loop-i-test.true in
    rows_more p.contexts p.rows_inside c.rows_of-all.ensures c.loop-i.invariant k c.row_at-c.ensures c.row.ensures
