-- `sift` meets its contract. The loop has looked at the first i elements.
use mathlib.Core.Path.{◌≡◌}
use native.Mathlib.Omega.{arith}
use lib.ListN.{length}
use Rattle.refinement.proofs.Sifting.{sifting_more, sifting_sifted}
use Rattle.refinement.proofs.line.sift.Goals as goal

pub loop-i-preserved : goal.loop-i-preserved
loop-i-preserved c = sifting_more (omega (arith, c.requires.room)) c.loop-i.invariant c.from-kept.ensures

pub returns : goal.returns
returns c = let l = c.loop-i in
    let e : l.i ≡ length c.args.list.now = omega arith in
    rw e at (sifting_sifted (omega arith) l.invariant)
