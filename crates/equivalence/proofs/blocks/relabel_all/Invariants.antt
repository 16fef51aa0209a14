-- `relabel_all` meets its contract. The bytes before the index are relabelled, and the others are as they were.
use Rattle.std.proofs.Common.{◌≡◌, ℕ, ◌<◌, ◌≤◌, get_or}
use Rattle.kernel.specs.InnerKernel.{relabel}
use Rattle.equivalence.proofs.blocks.relabel_all.Given as goal

abbrev pub invariant-loop-v : goal.invariant-loop-v
invariant-loop-v l =
    ((k : ℕ) → k < l.v-index → get_or l.v-items k 0 ≡ relabel l.old l.new (get_or l.initial.v-items k 0))
    × ((k : ℕ) → l.v-index ≤ k → get_or l.v-items k 0 ≡ get_or l.initial.v-items k 0)
