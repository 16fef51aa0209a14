-- `lengths::second_digits_of_few` meets its contract, by the laws of Counting.
use native.Mathlib.Omega.{arith}
use Rattle.tablewriter.proofs.Counting.{second_none, second_more, second_short, second_all}
use Rattle.tablewriter.proofs.lengths.second_digits_of_few.Goals as goal

pub loop-v-init : goal.loop-v-init
loop-v-init c = search second_none

pub second_digit-count-requires : goal.second_digit-count-requires
second_digit-count-requires c = search second_short

pub overflow_add-count : goal.overflow_add-count
overflow_add-count c = let p = c.requires in
    omega (arith, second_more _ p.numbers_below _ _ _ c.loop-v.invariant (omega arith) c.second_digit-count.ensures, p.m_len_bound)

pub loop-v-preserved : goal.loop-v-preserved
loop-v-preserved c = search second_more

pub returns : goal.returns
returns c = search second_all
