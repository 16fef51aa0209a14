-- `quotient::tables::divide_cell` meets its contract. The one byte written is the block number of the cell.
use mathlib.Core.Path.{ap, ◌∙◌}
use lib.ListN.{set}
use Rattle.equivalence.proofs.Laying.{laid_byte}
use Rattle.quotient.proofs.tables.divide_cell.Goals as goal

pub returns : goal.returns
returns c = ap (set c.args.out.now c.args.to) c.block_of-block.ensures ∙ laid_byte c.args.out.now c.args.to _ c.requires.out_room
