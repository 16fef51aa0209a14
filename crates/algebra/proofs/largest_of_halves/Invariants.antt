-- `largest_of_halves`: the largest of what is passed of each half, one byte more of each in every turn.
use Rattle.algebra.proofs.Maximum.{LargestFrom}
use Rattle.kernel.specs.InnerLargest.{Largest}
use Rattle.algebra.proofs.largest_of_halves.Given as goal

abbrev pub invariant-loop-i : goal.invariant-loop-i
invariant-loop-i l = Largest l.i l.s l.front × LargestFrom l.half l.i l.s l.back
