-- `split_at` meets its contract: where x breaks, its block at least is split.
use Rattle.refinement.proofs.Splits.{block_split, blocks_split}
use Rattle.refinement.proofs.line.split_at.Goals as goal

pub returns-then-round : goal.returns-then-round
returns-then-round c = search block_split

pub returns : goal.returns
returns c = search blocks_split
