-- `rows::long_number` meets its contract, by the laws of Digits and Pairs.
use Rattle.tablereader.proofs.Pairs.{fits_digit, long_number}
use native.Mathlib.Omega.{arith}
use Rattle.numberreader.proofs.Digits.{digit_low, digit_high}
use Rattle.tablereader.proofs.rows.long_number.Goals as goal

pub overflow_sub-result : goal.overflow_sub-result
overflow_sub-result c = omega (arith, fits_digit _ _ _ _ c.fits.ensures c.if-not-fits.false-raw)

pub overflow_mul-result : goal.overflow_mul-result
overflow_mul-result c = omega (arith, fits_digit _ _ _ _ c.fits.ensures c.if-not-fits.false-raw)

pub overflow_sub-result-2 : goal.overflow_sub-result-2
overflow_sub-result-2 c = search digit_low

pub overflow_add-result : goal.overflow_add-result
overflow_add-result c = omega (arith, fits_digit _ _ _ _ c.fits.ensures c.if-not-fits.false-raw, digit_high _ _ c.is_digit.ensures c.if-not-is_digit.false-raw)

pub returns : goal.returns
returns c = search long_number
