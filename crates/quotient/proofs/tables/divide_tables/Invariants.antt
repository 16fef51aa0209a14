-- `quotient::tables::divide_tables` meets its contract. The invariant: the tables of the operations before the index are laid.
use Rattle.quotient.specs.InnerTables.{source_of}
use Rattle.quotient.proofs.Operations.{Divided}
use Rattle.quotient.proofs.tables.divide_tables.Given as goal

abbrev pub invariant-loop-arity : goal.invariant-loop-arity
invariant-loop-arity l = Divided (source_of l.n l.fn.cells l.fn.numbers l.names) l.arities l.initial.out l.out l.arity-index l.from l.to
