-- `whole_into`: n zeros are the map with one block.
use mathlib.Core.Path.{◌≡◌}
use native.Mathlib.Omega.{arith}
use lib.ListN.{length, take}
use lib.Seq.{length-take-le}
use Rattle.maplist.proofs.MapLists.{zeros_written}
use Rattle.maplist.proofs.whole_into.Goals as goal

pub returns : goal.returns
returns c = let long : length (take c.args.n c.args.m.now) ≡ c.args.n = length-take-le c.args.n c.args.m.now (omega arith) in
    zeros_written c.args.n c.args.m.now (rw long at (c.fill.ensures.after (λ y e. e)))
