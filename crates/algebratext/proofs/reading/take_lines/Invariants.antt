-- `reading::take_lines` meets its contract, by the laws of Taking.
use Prim.Native.Nat.{◌-◌}
use mathlib.Core.Path.{◌≡◌}
use lib.ListN.{length}
use Rattle.algebratext.proofs.Taking.{LinesSoFar}
use Rattle.algebratext.proofs.reading.take_lines.Given as goal

abbrev pub invariant-loop-algebra : goal.invariant-loop-algebra
invariant-loop-algebra l = LinesSoFar l.text l.initial.arities l.arities l.cells l.algebra × ((length l.arities ≡ length l.initial.arities) × (length l.cells ≡ length l.initial.cells))

abbrev pub decreases-loop-algebra : goal.decreases-loop-algebra
decreases-loop-algebra l = length l.text - l.algebra.at
