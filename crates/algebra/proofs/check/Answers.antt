-- `check` meets its contract, by the laws of Accepted: one for each return.
use Rattle.algebra.proofs.Accepted.{tests_size, tests_operations, tests_arity, tests_cells, tests_length, tests_cell, tests_none}
use Rattle.equivalence.proofs.Refusals.{sized_most}
use Rattle.algebra.proofs.Maximum.{largest_most}
use Rattle.algebra.proofs.check.Goals as goal

pub returns-then-not-is_size : goal.returns-then-not-is_size
returns-then-not-is_size c = search tests_size

pub returns-then-arities-gt-MAX_OPERATIONS : goal.returns-then-arities-gt-MAX_OPERATIONS
returns-then-arities-gt-MAX_OPERATIONS c = search tests_operations

pub returns-then-largest-gt-MAX_ARITY : goal.returns-then-largest-gt-MAX_ARITY
returns-then-largest-gt-MAX_ARITY c = search tests_arity

pub cell_count-count-requires-clause-n_bound : goal.cell_count-count-requires-clause-n_bound
cell_count-count-requires-clause-n_bound c = search sized_most

pub cell_count-count-requires-clause-by_index : goal.cell_count-count-requires-clause-by_index
cell_count-count-requires-clause-by_index c = search largest_most

pub returns-then-count-gt-MAX_CELLS : goal.returns-then-count-gt-MAX_CELLS
returns-then-count-gt-MAX_CELLS c = search tests_cells

pub returns-then-cells-count : goal.returns-then-cells-count
returns-then-cells-count c = search tests_length

pub returns-then-largest-n : goal.returns-then-largest-n
returns-then-largest-n c = search tests_cell

pub returns : goal.returns
returns c = search tests_none
