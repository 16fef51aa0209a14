-- `unite_all` meets its contract. The loop has joined the elements below x with their names in b (`Joined`), by the laws of Joining.
use Rattle.std.proofs.Common.{◌<◌, arith}
use lib.Seq.{get_or-take, length-take-le}
use Rattle.lattice.proofs.Joining.{joined_more}
use Rattle.lattice.proofs.joins.unite_all.Goals as goal

pub loop-x-preserved : goal.loop-x-preserved
loop-x-preserved c =
    let k : c.loop-x.x < c.args.n = omega (arith, length-take-le c.args.n c.args.b.now (omega arith)) in
    joined_more k c.requires.canonical_2 c.loop-x.invariant (rw (get_or-take c.args.n c.args.b.now c.loop-x.x 0 k) at c.unite.ensures)
