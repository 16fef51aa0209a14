-- `write_number` meets its contract, by the laws of Spacing.
use Prim.Native.Nat.{◌<◌}
use native.Mathlib.Omega.{arith}
use Rattle.writer.proofs.Spacing.{number_of_one, number_of_two, number_of_three}
use Rattle.writer.proofs.write_number.Goals as goal

pub returns-then-v-lt10-clause-laid : goal.returns-then-v-lt10-clause-laid
returns-then-v-lt10-clause-laid c = search number_of_one

pub returns-then-v-lt100-clause-laid : goal.returns-then-v-lt100-clause-laid
returns-then-v-lt100-clause-laid c = search number_of_two

pub returns-clause-laid : goal.returns-clause-laid
returns-clause-laid c = let v = c.args.v in
    let l : v < 1000 = omega arith in
    search number_of_three
