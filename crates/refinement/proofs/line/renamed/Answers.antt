-- `renamed` meets its contract: an element of another block keeps its name, one of the block is looked up.
use Rattle.refinement.proofs.Seeing.{alike_elsewhere}
use Rattle.refinement.proofs.line.renamed.Goals as goal

pub returns-then-m-x-clause-alike : goal.returns-then-m-x-clause-alike
returns-then-m-x-clause-alike c = let p = c.requires in
    alike_elsewhere p.line_lent.map.canonical p.x_lt_n c.if-m-x.true
