-- `imagepart::write_little` meets its contract.
use native.Mathlib.Omega.{arith}
use Rattle.imagepart.proofs.Littles.{writing_more, writing_all}
use Rattle.imagepart.proofs.write_little.Goals as goal

pub loop-i-preserved : goal.loop-i-preserved
loop-i-preserved c = writing_more _ _ _ _ _ _ _ c.loop-i.invariant c.requires (omega arith)

pub returns : goal.returns
returns c = writing_all _ _ _ _ _ _ _ c.loop-i.invariant (omega (arith, c.loop-i.invariant.within))
