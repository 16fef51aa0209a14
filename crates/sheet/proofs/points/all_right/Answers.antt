-- `sheet::points::all_right` meets its contract, by the laws of Faults: the first i places have points.
use mathlib.Core.Path.{◌∙◌}
use native.Mathlib.Omega.{arith}
use borrow.Author.Count.{below_more}
use borrow.Author.Rules.{rules}
use Rattle.equivalence.proofs.Lists.{below_of}
use Rattle.equivalence.proofs.Tests.{true_is}
use Rattle.sheet.specs.Points.{point_in}
use Rattle.sheet.proofs.Faults.{points_unmapped, points_alike, point_right}
use Rattle.sheet.proofs.Places.{first_front}
use Rattle.sheet.proofs.points.all_right.Goals as goal

pub returns-then-not-has_map : goal.returns-then-not-has_map
unfolding point_in
returns-then-not-has_map c = points_unmapped _ _ _ _ (search rules) c.has_map.ensures (search rules)

pub returns-then-first_named-i : goal.returns-then-first_named-i
unfolding point_in
returns-then-first_named-i c = points_alike _ _ _ _ (search rules) (c.first_named.ensures.0 ∙ first_front _ _ _ (omega arith)) c.if-first_named-i.true

pub loop-i-preserved : goal.loop-i-preserved
unfolding point_in
loop-i-preserved c = below_more _ _ c.loop-i.invariant (point_right _ _ _ c.has_map.ensures (search rules) (c.first_named.ensures.0 ∙ first_front _ _ _ (omega arith)) c.if-first_named-i.false)

pub returns : goal.returns
returns c = true_is _ (below_of _ _ (λ j h. c.loop-i.invariant j (omega arith)))
