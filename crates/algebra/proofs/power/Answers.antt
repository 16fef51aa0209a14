-- `power`, case by case.
use mathlib.Core.Path.{◌≡◌, sym}
use native.Mathlib.Omega.{arith}
use Rattle.algebra.proofs.Powers.{power_one, power_three}
use Rattle.algebra.proofs.power.Goals as goal

pub returns-in-1 : goal.returns-in-1
returns-in-1 c = rw c.in-1.is (sym (power_one c.args.n))

pub returns-in_default : goal.returns-in_default
returns-in_default c = let e : c.args.s ≡ 3 = omega arith in rw e (sym (power_three c.args.n))
