-- `lines::write_operations` meets its contract, by the laws of Lining.
use Rattle.tablewriter.proofs.Lining.{LinesWritten}
use Rattle.tablewriter.proofs.lines.write_operations.Given as goal

abbrev pub invariant-loop-arity : goal.invariant-loop-arity
invariant-loop-arity l = LinesWritten l.n l.arities l.cells l.initial.out l.put l.out l.at l.from l.arity-index
