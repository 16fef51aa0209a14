-- `pair_inside`: what is kept for the two, compared.
use Rattle.keeping.proofs.Insides.{pair_inside}
use Rattle.keeping.proofs.inside.pair_inside.Goals as goal

pub returns : goal.returns
returns c = search pair_inside
