-- `take`: what is kept for two elements is joined.
use Rattle.keeping.proofs.Closings.{taken}
use Rattle.keeping.proofs.principal.take.Goals as goal

pub returns : goal.returns
returns c = search taken
