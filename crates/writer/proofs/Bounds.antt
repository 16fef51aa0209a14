-- Bounds on numbers by the largest of them.
use Prim.Native.Nat.{ℕ, ◌+◌, ◌<◌}
use mathlib.Core.List.{List}
use native.Mathlib.Omega.{arith}
use lib.ListN.{length, get_or}
use Rattle.kernel.specs.InnerLargest.{Largest}
use Rattle.writer.specs.InnerRoom.{NumbersBelow}

-- none is above the largest
pub largest_bounds : (m : List ℕ) (top : ℕ) → Largest (length m) m top → NumbersBelow (top + 1) m
largest_bounds m top p i l = omega (arith, p.above i l)

-- a bound on the largest is one on each
pub largest_below : (m : List ℕ) (top k : ℕ) → NumbersBelow (top + 1) m → top < k → NumbersBelow k m
largest_below m top k p h i l = omega (arith, p i l)

pub each_below : (m : List ℕ) (i k : ℕ) → NumbersBelow k m → i < length m → get_or m i 0 < k
each_below m i k p h = p i h
