-- `rebuild`: a kept map joined where nothing was.
use Rattle.keeping.proofs.Keepings.{nothing_ready}
use Rattle.keeping.proofs.Closings.{rebuilding_joinable, rebuilt}
use Rattle.keeping.proofs.principal.rebuild.Goals as goal

pub join_kept-requires-clause-ready : goal.join_kept-requires-clause-ready
join_kept-requires-clause-ready c = search nothing_ready

pub join_kept-requires-clause-canonical : goal.join_kept-requires-clause-canonical
join_kept-requires-clause-canonical c = (rebuilding_joinable c.requires.rebuilding).1

pub returns : goal.returns
returns c = rebuilt c.requires.rebuilding c.requires.nothing_joined.fresh c.join_kept.ensures
