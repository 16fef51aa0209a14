-- `rows::mixed_pair` meets its contract, by the laws of Pairs.
use Rattle.tablereader.proofs.Pairs.{digit_of, fits_digit, pair_found}
use Rattle.tablereader.proofs.rows.mixed_pair.Goals as goal

pub value-requires-clause-digit : goal.value-requires-clause-digit
value-requires-clause-digit c =
    fits_digit _ _ _ _ c.fits.ensures c.if-not-fits.false-raw

pub value-requires-clause-digit_2 : goal.value-requires-clause-digit_2
value-requires-clause-digit_2 c =
    digit_of _ _ c.is_digit-wide.ensures

pub value-requires-2-clause-digit : goal.value-requires-2-clause-digit
value-requires-2-clause-digit c =
    fits_digit _ _ _ _ c.fits-2.ensures c.if-not-fits-2.false-raw

pub value-requires-2-clause-digit_2 : goal.value-requires-2-clause-digit_2
value-requires-2-clause-digit_2 c = search digit_of

pub returns : goal.returns
returns c = search pair_found
