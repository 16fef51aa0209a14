-- `quotient::numbers::number_blocks` meets its contract. The invariant: the elements before x are numbered.
use Rattle.quotient.proofs.Numbering.{Numbering}
use Rattle.quotient.proofs.numbers.number_blocks.Given as goal

abbrev pub invariant-loop-x : goal.invariant-loop-x
invariant-loop-x l = Numbering l.n l.map l.initial.numbers l.initial.names l.numbers l.names l.count l.x
