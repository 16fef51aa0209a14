-- `rows::read_most` meets its contract.
use borrow.Author.Rules.{rules}
use Rattle.tablereader.proofs.rows.read_most.Goals as goal

pub read_short-requires-clause-n_nonzero : goal.read_short-requires-clause-n_nonzero
read_short-requires-clause-n_nonzero c = (search rules, c.is_closed.ensures c.if-is_closed.true)
