-- `oldbenches::zero_sheet_v3` meets its contract.
use mathlib.Core.Path.{refl}
use Rattle.sheet.specs.Sheet.{zero_point}
use Rattle.oldbenches.specs.OldKinds.{zero_sheet_v3}
use Rattle.oldbenches.proofs.zero_sheet_v3.Goals as goal

pub returns : goal.returns
unfolding zero_sheet_v3 zero_point
returns c = refl
