-- `sheet::maps::count_above` meets its contract: the loop has counted the first x bytes.
use Prim.Native.Nat.{◌≤◌}
use mathlib.Core.Path.{◌≡◌}
use Rattle.equivalence.specs.Equivalence.{byte}
use Rattle.sheet.specs.InnerSums.{sum, exceeding}
use Rattle.sheet.proofs.maps.count_above.Given as goal

abbrev pub invariant-loop-x : goal.invariant-loop-x
invariant-loop-x l = (l.count ≡ sum l.x (exceeding (byte l.m))) × (l.count ≤ l.x)
