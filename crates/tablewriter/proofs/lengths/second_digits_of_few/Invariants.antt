-- `lengths::second_digits_of_few` meets its contract, by the laws of Counting.
use Rattle.tablewriter.proofs.Counting.{Counted}
use Rattle.tablewriter.proofs.lengths.second_digits_of_few.Given as goal

abbrev pub invariant-loop-v : goal.invariant-loop-v
invariant-loop-v l = Counted l.m l.count l.v-index
