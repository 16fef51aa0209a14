-- `rows::value` meets its contract, by the laws of Pairs.
use Rattle.tablereader.proofs.Pairs.{choose_first, choose_second}
use native.Mathlib.Omega.{arith}
use Rattle.tablereader.proofs.rows.value.Goals as goal

pub overflow_sub-result-then-wide : goal.overflow_sub-result-then-wide
overflow_sub-result-then-wide c = (c.requires.digit_2 c.if-wide.true).low

pub overflow_add-result : goal.overflow_add-result
overflow_add-result c = omega (arith, c.requires.digit_2 c.if-wide.true)

pub returns-then-wide : goal.returns-then-wide
returns-then-wide c = search choose_first

pub returns-else-wide : goal.returns-else-wide
returns-else-wide c = search choose_second
