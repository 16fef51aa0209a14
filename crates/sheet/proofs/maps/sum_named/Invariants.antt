-- `sheet::maps::sum_named` meets its contract: the loop has added the bytes of the names so far.
use Prim.Native.Nat.{◌*◌, ◌≤◌}
use mathlib.Core.Path.{◌≡◌}
use Rattle.equivalence.specs.Equivalence.{byte}
use Rattle.sheet.specs.InnerSums.{sum}
use Rattle.sheet.proofs.maps.sum_named.Given as goal

abbrev pub invariant-loop-name : goal.invariant-loop-name
invariant-loop-name l = (l.total ≡ sum l.name-index (λ y. byte l.m (byte l.m y))) × (l.total ≤ l.name-index * 255)
