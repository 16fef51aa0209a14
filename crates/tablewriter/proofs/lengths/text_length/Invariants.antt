-- `lengths::text_length` meets its contract, by the laws of Counting.
use Rattle.tablewriter.proofs.Counting.{Summed}
use Rattle.tablewriter.proofs.lengths.text_length.Given as goal

abbrev pub invariant-loop-arity : goal.invariant-loop-arity
invariant-loop-arity l = Summed l.n l.arities l.cells l.sum l.arity-index
