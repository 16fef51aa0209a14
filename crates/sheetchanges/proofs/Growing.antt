-- A map extended in its bytes.
use Prim.Native.Nat.{ℕ, ◌<◌}
use mathlib.Core.List.{List}
use mathlib.Core.Path.{sym, ◌∙◌}
use native.Mathlib.Omega.{arith}
use lib.Dec.{T}
use lib.ListN.{take}
use Rattle.equivalence.specs.Equivalence.{byte, is_map}
use Rattle.kernel.specs.InnerKernel.{Canonical}
use Rattle.equivalence.proofs.BlockNumbers.{blocks_le}
use Rattle.equivalence.proofs.Maps.{of_is_map}
use Rattle.algebra.specs.Accepted.{Accepted}
use Rattle.algebra.specs.Algebra.{Algebra}
use Rattle.algebra.proofs.Accepted.{accepted_well_formed}
use Rattle.extremal.specs.InnerExtension.{MapExtended}
use Rattle.extremal.proofs.Bridges.{front_byte}
use Rattle.sheetchanges.specs.InnerGrowth.{MapGrown}
use Rattle.benchsheets.specs.State.{blocks_lost}

-- bytes that begin with a map are canonical
pub front_canonical : (n : ℕ) (l : List ℕ) → T (is_map n (take n l)) → Canonical n (byte l)
front_canonical n l t =
    let p = of_is_map n (take n l) t in
    record {
      below = λ x h. rw (front_byte n l x h) at (p.low x h);
      named = λ x h.
          let k : byte l x < n = omega (arith, rw (front_byte n l x h) at (p.low x h)) in
          sym (front_byte n l (byte l x) k) ∙ (rw (front_byte n l x h) at (p.named x h));
    }

-- a map extended in its bytes: the blocks that it cost are those lost, and they are few
pub map_grown : (a : Algebra) → Accepted a → (x y : ℕ) (old new : List ℕ) (lost : ℕ) → MapExtended a x y old new lost → MapGrown a x y old new lost
unfolding blocks_lost
map_grown a ok x y old new lost e =
    record {
      bytes = e.bytes;
      blocks = omega (arith, e.cost);
      few = omega (arith, e.cost, blocks_le a.size (take a.size old), (accepted_well_formed a ok).most);
    }
