-- `copy` meets its contract. The first x bytes are those of the other slice.
use Rattle.std.proofs.Common.{◌≡◌, ℕ, ◌<◌, get_or}
use Rattle.equivalence.proofs.blocks.copy.Given as goal

abbrev pub invariant-loop-x : goal.invariant-loop-x
invariant-loop-x l = (k : ℕ) → k < l.x → get_or l.place-items k 0 ≡ get_or l.from k 0
