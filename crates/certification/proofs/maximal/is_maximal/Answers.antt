-- `is_maximal`: the number of blocks decides, or the quotient does.
use Rattle.certification.proofs.Dividing.{map_long, one_block, two_blocks, more_blocks, quotient_decides}
use Rattle.certification.proofs.maximal.is_maximal.Goals as goal

pub block_count-b-requires : goal.block_count-b-requires
block_count-b-requires c = search map_long

pub returns-then-b-lt2 : goal.returns-then-b-lt2
returns-then-b-lt2 c = search one_block

pub returns-then-b-lt3 : goal.returns-then-b-lt3
returns-then-b-lt3 c = search two_blocks

pub divides_irreducibly-requires-clause-bound : goal.divides_irreducibly-requires-clause-bound
divides_irreducibly-requires-clause-bound c = search more_blocks

pub returns : goal.returns
returns c = search quotient_decides
