-- `sheet::zeros` meets its contract.
use mathlib.Core.Path.{refl}
use Rattle.sheet.specs.Sheet.{zero_point, zero_sheet}
use Rattle.sheet.proofs.zeros.Goals as goal

pub returns : goal.returns
unfolding zero_point zero_sheet
returns c = refl
