-- `make_pair`: what the pass made is stored.
use Rattle.keeping.proofs.Keepings.{kept_made}
use Rattle.keeping.proofs.pairs.make_pair.Goals as goal

pub returns : goal.returns
returns c = search kept_made
