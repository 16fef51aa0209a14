-- `sheet::with_identity` meets its contract.
use Rattle.sheet.specs.Sheet.{sheet_with}
use Rattle.sheet.proofs.with_identity.Goals as goal

pub returns : goal.returns
unfolding sheet_with
returns c = rw c.write_identity.ensures
