-- `rows::long_pair` meets its contract, by the laws of Pairs.
use Rattle.tablereader.proofs.Pairs.{long_found}
use Rattle.tablereader.proofs.rows.long_pair.Goals as goal

pub returns : goal.returns
returns c = long_found _ _ _ _ c.in_ok-first.ensures c.in_ok-second.ensures
