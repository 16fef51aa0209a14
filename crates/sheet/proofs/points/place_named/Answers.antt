-- `sheet::points::place_named` meets its contract.
use mathlib.Core.Path.{◌∙◌}
use native.Mathlib.Omega.{arith}
use lib.Seq.{length-take-le}
use Rattle.sheet.specs.Points.{place_named}
use Rattle.sheet.proofs.Places.{first_front}
use Rattle.sheet.proofs.points.place_named.Goals as goal

pub returns : goal.returns
unfolding place_named
returns c = let s = c.args.sheet in
    (c.first_named.ensures.0 ∙ first_front s.points s.count _ (omega arith), omega (arith, c.first_named.ensures.1, length-take-le s.count s.points (omega arith)))
