-- `image::read_sheet` meets its contract.
use Rattle.image.specs.Image.{sheet_tally_in, sheet_in}
use Rattle.image.proofs.read_sheet.Goals as goal

pub returns : goal.returns
unfolding sheet_in sheet_tally_in
returns c = rw (c.tallied.ensures, c.read_sheet_v3-sheet.ensures, c.read_little-tally.ensures.0)
