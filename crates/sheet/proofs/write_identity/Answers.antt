-- `sheet::write_identity` meets its contract.
use native.Mathlib.Omega.{arith}
use borrow.Author.Rules.{rules}
use Rattle.equivalence.proofs.Maps.{identity_map}
use Rattle.equivalence.proofs.Writing.{filled_written}
use Rattle.sheet.proofs.SheetMaps.{filled_identity}
use Rattle.sheet.proofs.write_identity.Goals as goal

pub returns : goal.returns
returns c = filled_written _ _ _ _ (identity_map _).long (omega arith) (search rules) (filled_identity _ _ _ c.identity.ensures)
