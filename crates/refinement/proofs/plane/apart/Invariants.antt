-- `apart` meets its contract. The loop has passed the first i elements in use, two in each turn.
use lib.ListN.{length}
use Prim.Native.Nat.{◌-◌}
use Rattle.equivalence.specs.Equivalence.{byte}
use Rattle.refinement.proofs.Rows.{Beside}
use Rattle.refinement.proofs.plane.apart.Given as goal

abbrev pub invariant-loop-i : goal.invariant-loop-i
invariant-loop-i l = Beside l.round.live.now (length l.round.live.now) l.round.cells.now l.here l.there (byte l.m) l.i

abbrev pub decreases-loop-i : goal.decreases-loop-i
decreases-loop-i l = length l.round.live.now - l.i
