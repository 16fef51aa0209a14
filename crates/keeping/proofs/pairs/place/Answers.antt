-- `place`: below 2016.
use Rattle.keeping.proofs.PairPlaces.{place_of}
use Rattle.keeping.proofs.pairs.place.Goals as goal

pub returns : goal.returns
returns c = search place_of
