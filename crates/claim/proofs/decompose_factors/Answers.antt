-- `decompose_factors`: the calls were made, and the claim holds of them.
use Rattle.claim.proofs.Claims.{counted_fit, calls_made, claimed}
use Rattle.claim.proofs.decompose_factors.Goals as goal

pub irreducible_among-irreducible-requires : goal.irreducible_among-irreducible-requires
irreducible_among-irreducible-requires c = search counted_fit

pub returns : goal.returns
returns c = search (calls_made, claimed)
