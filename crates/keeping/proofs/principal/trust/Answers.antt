-- `trust`: a join, with a queue that is not used.
use mathlib.Core.Path.{refl}
use Rattle.keeping.proofs.Closings.{full_ready}
use borrow.Author.Rules.{rules}
use Rattle.keeping.proofs.principal.trust.Goals as goal

pub join_kept-requires-clause-ready : goal.join_kept-requires-clause-ready
join_kept-requires-clause-ready c = let p = c.requires in
    full_ready p.full_map (search rules) refl
