-- `rows::chosen` meets its contract, by the laws of Pairs.
use Rattle.tablereader.proofs.Pairs.{choose_first, choose_second}
use Rattle.tablereader.proofs.rows.chosen.Goals as goal

pub returns-then-wide : goal.returns-then-wide
returns-then-wide c = search choose_first

pub returns-else-wide : goal.returns-else-wide
returns-else-wide c = search choose_second
