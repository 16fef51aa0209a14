-- `rename_block` meets its contract. The loop has named every element below x.
use Rattle.refinement.proofs.Seeing.{renaming_more}
use borrow.Author.Rules.{rules}
use Rattle.refinement.proofs.line.rename_block.Goals as goal

pub loop-x-preserved : goal.loop-x-preserved
loop-x-preserved c = (search rules, search renaming_more)
