-- `decompose_front`: the tables are the first cells, as many as `cell_count` says.
use Rattle.claim.proofs.Claims.{front_decomposed}
use Rattle.claim.proofs.decompose_front.Goals as goal

pub returns : goal.returns
returns c = search front_decomposed
