-- `benchsheets::with_sheet` meets its contract.
use mathlib.Core.Path.{refl}
use Rattle.benchsheets.specs.State.{with_sheet}
use Rattle.benchsheets.proofs.with_sheet.Goals as goal

pub returns : goal.returns
unfolding with_sheet
returns c = refl
