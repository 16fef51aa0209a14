-- `common`: the first pair is of two elements below n, so they fit into bytes.
use native.Mathlib.Omega.{arith}
use Rattle.gathering.proofs.Gathering.{pair_bytes, pair_found_lem}
use Rattle.gathering.proofs.step.common.Goals as goal

pub overflow_cast-result : goal.overflow_cast-result
overflow_cast-result c = let b = pair_bytes (search) c.first_held-pair.ensures in omega (arith, b)

pub overflow_cast-result-2 : goal.overflow_cast-result-2
overflow_cast-result-2 c = let b = pair_bytes (search) c.first_held-pair.ensures in omega (arith, b)

pub returns : goal.returns
returns c = search pair_found_lem
