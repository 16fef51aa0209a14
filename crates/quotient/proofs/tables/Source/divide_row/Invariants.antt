-- `quotient::tables::Source::divide_row` meets its contract. The invariant: the cells of k blocks are laid.
use Rattle.std.proofs.Common.{◌+◌}
use Rattle.quotient.proofs.Walks.{RowWalked}
use Rattle.quotient.proofs.tables.Source.divide_row.Given as goal

abbrev pub invariant-loop-k : goal.invariant-loop-k
invariant-loop-k l = RowWalked l.self.cells.now l.self.numbers.now l.self.names.now l.from l.initial.out l.to l.out l.k (l.to + l.k)
