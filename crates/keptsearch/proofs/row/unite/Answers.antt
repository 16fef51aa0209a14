-- `unite`: a join, with a queue that is not used.
use mathlib.Core.Path.{refl}
use Rattle.keeping.proofs.Closings.{full_ready}
use borrow.Author.Rules.{rules}
use Rattle.keptsearch.proofs.row.unite.Goals as goal

pub join_kept-requires-clause-ready : goal.join_kept-requires-clause-ready
join_kept-requires-clause-ready c = full_ready (search rules) (search rules) refl
