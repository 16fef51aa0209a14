-- `benchtests::clear_check` meets its contract, by the laws of Testing: one for each return.
use Rattle.equivalence.proofs.Refusals.{sized_most}
use Rattle.benchtests.proofs.Testing.{clear_unsized, clear_sheetless, clear_last}
use Rattle.benchtests.proofs.clear_check.Goals as goal

pub returns-then-not-is_size : goal.returns-then-not-is_size
returns-then-not-is_size c = search clear_unsized

pub returns-then-sheet-ge-SHEETS : goal.returns-then-sheet-ge-SHEETS
returns-then-sheet-ge-SHEETS c = search clear_sheetless

pub bench_check-requires : goal.bench_check-requires
bench_check-requires c = search sized_most

pub returns : goal.returns
returns c = search clear_last
