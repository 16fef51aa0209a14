-- `identity` meets its contract. The first x bytes are their own elements.
use Rattle.std.proofs.Common.{◌≡◌, ℕ, ◌<◌, get_or}
use Rattle.equivalence.proofs.blocks.identity.Given as goal

abbrev pub invariant-loop-x : goal.invariant-loop-x
invariant-loop-x l = (k : ℕ) → k < l.x → get_or l.name-items k 0 ≡ k
