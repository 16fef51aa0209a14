-- `quotient::tables::Source::divide_table` meets its contract. The measure is the arity; the invariant: the tables of k blocks are laid.
use Rattle.std.proofs.Common.{◌+◌, ◌*◌, ◌-◌}
use Rattle.quotient.specs.InnerTables.{source_in}
use Rattle.quotient.proofs.Walks.{Walked}
use Rattle.quotient.proofs.tables.Source.+divide_table.Given as goal

abbrev pub decreases-divide_table : goal.decreases-divide_table
decreases-divide_table l = l.s

abbrev pub invariant-loop-k : goal.invariant-loop-k
invariant-loop-k l =
    Walked (source_in l.self.n l.self.cells l.self.numbers l.self.names) (l.s - 1) l.width l.height l.from l.initial.out l.to l.out l.k (l.to + l.k * l.height)
