-- The conversion of a sheet of the first two kinds into one of the third meets its contract.
use Rattle.oldbenches.specs.OldKinds.{zero_sheet_v3, unpointed}
use Rattle.oldbenches.proofs.SheetV3FromSheetV1.from.Goals as goal

pub returns : goal.returns
unfolding zero_sheet_v3 unpointed
returns c = rw c.zero_sheet_v3.ensures
