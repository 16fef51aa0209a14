-- `benchsheets::eight_of` meets its contract.
use mathlib.Core.Path.{refl}
use Rattle.benchsheets.specs.State.{eight_of}
use Rattle.benchsheets.proofs.eight_of.Goals as goal

pub returns : goal.returns
unfolding eight_of
returns c = refl
