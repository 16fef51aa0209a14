-- `generated_into`: the closed map is the least congruence, by the laws of Bridges.
use Rattle.extremal.proofs.Bridges.{generated_written, generated_merges}
use Rattle.algebra.proofs.Accepted.{accepted_well_formed}
use native.Mathlib.Omega.{arith}
use Rattle.extremal.proofs.generated_into.Goals as goal

pub overflow_cast-result : goal.overflow_cast-result
overflow_cast-result c = omega (arith, c.close_pairs.ensures.m_after, (accepted_well_formed _ c.requires.accepted).most)

pub returns : goal.returns
returns c = search (generated_written, generated_merges)
