-- `join_into` meets its contract: a copy of one map, in which the other is joined, is the join (`joined_written` of Joining).
use borrow.Author.Rules.{rules}
use Rattle.lattice.proofs.Joining.{joined_written}
use Rattle.lattice.proofs.joins.join_into.Goals as goal

pub returns : goal.returns
returns c = joined_written _ _ _ _ _ _ (search rules) (search rules) (search rules) (search) c.unite_all.ensures
