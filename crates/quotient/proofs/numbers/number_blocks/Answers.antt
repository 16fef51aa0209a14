-- `quotient::numbers::number_blocks` meets its contract. The invariant: the elements before x are numbered.
use Rattle.quotient.proofs.Numbering.{numbering_none, numbering_more}
use Rattle.quotient.proofs.numbers.number_blocks.Goals as goal

pub loop-x-init : goal.loop-x-init
loop-x-init c = numbering_none c.requires.t

pub loop-x-preserved : goal.loop-x-preserved
loop-x-preserved c = numbering_more c.loop-x.invariant c.loop-x-test.true c.requires.numbers_room c.requires.names_room c.block_of-b.ensures c.self_named-count.ensures
