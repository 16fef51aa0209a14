-- `others`: the elements passed that are no names are collected.
use mathlib.Core.Path.{refl, ◌∙◌}
use mathlib.Core.Bool.{not}
use native.Mathlib.Omega.{arith}
use lib.Dec.{eqb}
use Rattle.closure.proofs.Collections.{collected_none, collected_more, collected_most}
use Rattle.equivalence.specs.Equivalence.{byte}
use Rattle.closure.proofs.start.others.Goals as goal

pub loop-x-init : goal.loop-x-init
loop-x-init c = (refl, collected_none (λ z. not (eqb (byte c.args.m.now z) z)) (byte c.args.out.now))

pub push-len-requires : goal.push-len-requires
push-len-requires c = omega (arith, collected_most c.loop-x.invariant.1)

pub loop-x-preserved : goal.loop-x-preserved
loop-x-preserved c = (c.push-len.auto.out ∙ c.loop-x.invariant.0, collected_more (λ z. not (eqb (byte c.args.m.now z) z)) c.loop-x.invariant.1 c.push-len.ensures)
