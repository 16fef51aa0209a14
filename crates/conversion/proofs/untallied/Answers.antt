-- `conversion::untallied` meets its contract.
use mathlib.Core.Path.{refl}
use Rattle.conversion.specs.Conversion.{untallied}
use Rattle.conversion.proofs.untallied.Goals as goal

pub returns : goal.returns
unfolding untallied
returns c = refl
