-- `benchtests::place_check` meets its contract, by the laws of Testing: one for each way to a return.
use Rattle.benchtests.proofs.Testing.{place_sheetless, place_first, place_second, place_last}
use Rattle.benchtests.proofs.place_check.Goals as goal
use Rattle.benchtests.proofs.place_check.Goals.{then-sheet-ge-SHEETS-via-then-sheet-ge-SHEETS, then-sheet-ge-SHEETS-via-else-sheet-ge-SHEETS+then-x-n, then-sheet-ge-SHEETS-via-else-sheet-ge-SHEETS+else-x-n+then-y-n}

pub returns-then-sheet-ge-SHEETS : goal.returns-then-sheet-ge-SHEETS
returns-then-sheet-ge-SHEETS c =
    elim c.then-sheet-ge-SHEETS.branch [
      | then-sheet-ge-SHEETS-via-then-sheet-ge-SHEETS w ↦ search place_sheetless
      | then-sheet-ge-SHEETS-via-else-sheet-ge-SHEETS+then-x-n w ↦ search place_first
      | then-sheet-ge-SHEETS-via-else-sheet-ge-SHEETS+else-x-n+then-y-n w ↦ search place_second
    ]

pub returns : goal.returns
returns c = search place_last
