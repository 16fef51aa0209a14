-- `sheet::maps::sum_bytes` meets its contract: the loop has added the bytes so far.
use Prim.Native.Nat.{◌*◌, ◌≤◌}
use mathlib.Core.Path.{◌≡◌}
use Rattle.equivalence.specs.Equivalence.{byte}
use Rattle.sheet.specs.InnerSums.{sum}
use Rattle.sheet.proofs.maps.sum_bytes.Given as goal

abbrev pub invariant-loop-byte : goal.invariant-loop-byte
invariant-loop-byte l = (l.total ≡ sum l.byte-index (byte l.m)) × (l.total ≤ l.byte-index * 255)
