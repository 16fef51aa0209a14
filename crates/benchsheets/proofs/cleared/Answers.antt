-- `benchsheets::cleared` meets its contract.
use Rattle.benchsheets.specs.State.{with_map, sheet_of}
use Rattle.benchsheets.proofs.cleared.Goals as goal

pub returns : goal.returns
unfolding with_map sheet_of
returns c = rw (c.with_sheet.ensures, c.with_identity-new.ensures, c.nth-old.ensures.0)
