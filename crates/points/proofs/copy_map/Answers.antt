-- `points::copy_map` meets its contract.
use mathlib.Core.Path.{refl}
use native.Mathlib.Omega.{arith}
use lib.Seq.{length-take-le}
use Rattle.equivalence.specs.Lent.{written}
use Rattle.points.proofs.copy_map.Goals as goal

pub returns : goal.returns
unfolding written
returns c = rw (c.copy_from_slice.ensures.after, length-take-le c.args.n c.args.from.now (omega arith)) refl
