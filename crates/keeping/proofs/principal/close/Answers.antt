-- `close`: the kept map is made up again with its queue, and that is taken.
use Rattle.keeping.proofs.Closings.{pair_grown}
use Rattle.keeping.proofs.principal.close.Goals as goal

pub returns : goal.returns
returns c = search pair_grown
