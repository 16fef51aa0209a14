-- `rows::fits` meets its contract, by the laws of Pairs.
use Rattle.tablereader.proofs.Pairs.{fits_not, fits_narrow, fits_wide}
use Rattle.tablereader.proofs.rows.fits.Goals as goal

pub returns-then-behind-ne32 : goal.returns-then-behind-ne32
returns-then-behind-ne32 c = search fits_not

pub returns-then-not-is_digit : goal.returns-then-not-is_digit
returns-then-not-is_digit c = search fits_not

pub returns-then-not-wide : goal.returns-then-not-wide
returns-then-not-wide c = search fits_narrow

pub returns : goal.returns
returns c = search fits_wide
