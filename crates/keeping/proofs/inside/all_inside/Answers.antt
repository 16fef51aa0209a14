-- `all_inside`: the laws of `Insides` keep and end the loop.
use Rattle.keeping.proofs.Insides.{proved_yes}
use Rattle.keeping.proofs.inside.all_inside.Goals as goal

pub returns : goal.returns
returns c = search proved_yes
