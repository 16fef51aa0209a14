-- `largest`: the largest of two halves, and of the last byte where the number of bytes is odd.
use native.Mathlib.Omega.{arith}
use Rattle.algebra.proofs.Maximum.{largest_last}
use Rattle.algebra.proofs.largest.Goals as goal

pub returns : goal.returns
returns c = largest_last (omega arith) (omega arith) c.larger.ensures c.largest_of_halves-top.ensures
