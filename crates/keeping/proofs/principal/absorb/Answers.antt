-- `absorb`: the last of the queue and its name are a pair; where they are not sure, what is kept for them is joined.
use Rattle.keeping.proofs.Closings.{absorbed_sure, absorbed_joined}
use Rattle.keeping.proofs.principal.absorb.Goals as goal

pub returns-then-sure-a : goal.returns-then-sure-a
returns-then-sure-a c = search absorbed_sure

pub returns : goal.returns
returns c = search absorbed_joined
