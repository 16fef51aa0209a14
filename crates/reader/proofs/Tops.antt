-- Whether every byte is below n, by the largest of them.
use Prim.Native.Nat.{ℕ, ◌<◌}
use mathlib.Core.List.{List}
use mathlib.Core.Path.{◌≡◌, ◌∙◌}
use native.Mathlib.Decide.{dec_lt}
use native.Mathlib.Omega.{arith}
use borrow.Author.Tests.{lt-ltb, le-ltb}
use lib.Dec.{ltb, lt→ltb, ltb→lt}
use lib.ListN.{length, get_or}
use Rattle.kernel.specs.InnerLargest.{Largest}
use Rattle.equivalence.specs.Lists.{every}
use Rattle.equivalence.proofs.Tests.{true_is, false_is}
use Rattle.algebra.proofs.Accepted.{every_at, every_by}

pub largest_tells : (bytes : List ℕ) (n top : ℕ) → 0 < n → Largest (length bytes) bytes top → ltb top n ≡ every (λ c. ltb c n) bytes
largest_tells bytes n top h m =
    elim (dec_lt top n) [
      | yes l ↦ lt-ltb top n l
          ∙ true_is (every (λ c. ltb c n) bytes) (every_by (λ c. ltb c n) bytes (λ i j. lt→ltb (get_or bytes i 0) n (omega (arith, m.above i j))))
      | no l ↦ le-ltb top n (omega arith)
          ∙ false_is (every (λ c. ltb c n) bytes) (λ t. l (m.least n h (λ i j. ltb→lt (get_or bytes i 0) n (every_at (λ c. ltb c n) bytes t i j))))
    ]
