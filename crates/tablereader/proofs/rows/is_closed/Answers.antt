-- `rows::is_closed` meets its contract, by the laws of Pairs.
use Rattle.tablereader.proofs.Pairs.{untrue}
use Rattle.tablereader.proofs.rows.is_closed.Goals as goal

pub returns-then-text-at : goal.returns-then-text-at
returns-then-text-at c = untrue
