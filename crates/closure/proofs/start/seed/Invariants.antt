-- `seed`: the pairs passed are joined, and everything that joins all pairs has made the merges.
use Prim.Native.Nat.{ℕ, ◌+◌, ◌*◌, ◌<◌}
use mathlib.Core.Path.{◌≡◌}
use Rattle.closure.specs.InnerStarts.{JoinsPairs}
use Rattle.equivalence.specs.Equivalence.{byte}
use Rattle.sweep.specs.InnerQueue.{state_of, Grown}
use Rattle.closure.proofs.start.seed.Given as goal

abbrev pub invariant-loop-j : goal.invariant-loop-j
invariant-loop-j l = Grown l.n (JoinsPairs l.pairs) (state_of l.initial.merging) (state_of l.merging) × ((i : ℕ) → i < l.j → byte l.merging.map (byte l.pairs (2 * i)) ≡ byte l.merging.map (byte l.pairs (2 * i + 1)))
