-- `points::with_point` meets its contract.
use native.Mathlib.Omega.{arith}
use Rattle.sheet.proofs.Storing.{stored_in}
use Rattle.points.proofs.with_point.Goals as goal

pub returns : goal.returns
returns c = stored_in _ c.args.sheet _ c.place_named-place.ensures.0 _ (λ h. omega arith) (λ h. omega arith)
