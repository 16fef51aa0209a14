-- `rows::item_length` meets its contract, by the laws of Pairs.
use Rattle.tablereader.proofs.Pairs.{length_wide, length_narrow}
use Rattle.tablereader.proofs.rows.item_length.Goals as goal

pub returns-then-wide : goal.returns-then-wide
returns-then-wide c = search length_wide

pub returns-else-wide : goal.returns-else-wide
returns-else-wide c = search length_narrow
