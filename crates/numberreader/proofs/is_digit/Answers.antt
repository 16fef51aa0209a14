-- `numberreader::is_digit` meets its contract.
use Rattle.std.proofs.Common.{rules}
use Rattle.numberreader.specs.InnerPromises.{is_digit}
use Rattle.numberreader.proofs.is_digit.Goals as goal

pub returns : goal.returns
unfolding is_digit
returns c = search rules
