-- `imagepart::lay_points` meets its contract.
use native.Mathlib.Omega.{arith}
use Rattle.imagepart.specs.Parts.{points_bytes}
use Rattle.imagepart.proofs.Steps.{laid_then}
use Rattle.imagepart.proofs.lay_points.Goals as goal

pub returns : goal.returns
unfolding points_bytes
returns c = let k = c in
    laid_then 1 576 _ _ _ _ _ _ k.write_little.ensures c.lay_places.ensures (omega (arith, k.requires))
