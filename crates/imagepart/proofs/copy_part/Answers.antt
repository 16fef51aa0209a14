-- `imagepart::copy_part` meets its contract: the bytes that both have are written.
use mathlib.Core.Path.{◌≡◌, ◌∙◌}
use native.Mathlib.Omega.{arith}
use lib.ListN.{take, length}
use Rattle.std.proofs.Common.{length-take-le}
use Rattle.equivalence.specs.Lent.{written}
use Rattle.equivalence.proofs.Writing.{filled_written}
use Rattle.imagepart.proofs.Copies.{copied_least}
use Rattle.imagepart.proofs.copy_part.Goals as goal

pub returns : goal.returns
unfolding written
returns c = let n = c.min-n.result in
    let part = c.args.part.now in
    let least : length (take n part) ≡ n = length-take-le n part (omega (arith, c.min-n.ensures)) in
    filled_written n (take n part) c.args.out.now c.copy.new.to least (omega (arith, c.min-n.ensures)) c.copy.auto.to c.copy.ensures
    ∙ rw (least, c.min-n.ensures) (copied_least part c.args.out.now)
