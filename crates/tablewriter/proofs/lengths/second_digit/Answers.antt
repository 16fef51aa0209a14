-- `lengths::second_digit` meets its contract, by the laws of Lengths of `writer`.
use Rattle.std.proofs.Common.{arith}
use Rattle.std.proofs.lemmas.Bool.Decides.{nat_tests}
use Rattle.writer.proofs.Lengths.{one_digit_long, two_digits_long}
use Rattle.tablewriter.proofs.lengths.second_digit.Goals as goal

pub returns : goal.returns
returns c = grind (arith, nat_tests, one_digit_long, two_digits_long)
