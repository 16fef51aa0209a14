-- `grow`: the grown map is stored.
use Rattle.keeping.proofs.Closings.{principal_grown}
use Rattle.keeping.proofs.principal.grow.Goals as goal

pub returns : goal.returns
returns c = search principal_grown
