-- `lengths::text_length` meets its contract, by the laws of Counting.
use native.Mathlib.Omega.{arith}
use Rattle.tablewriter.proofs.Counting.{digits_few, summed_none, summed_next, summed_text}
use Rattle.tablewriter.proofs.lengths.text_length.Goals as goal

pub overflow_add-sum : goal.overflow_add-sum
overflow_add-sum c = omega (arith, digits_few c.args.n (omega arith), c.second_digit.ensures)

pub overflow_add-sum-2 : goal.overflow_add-sum-2
overflow_add-sum-2 c = omega (arith, digits_few c.args.n (omega arith), c.second_digit.ensures)

pub overflow_add-sum-3 : goal.overflow_add-sum-3
overflow_add-sum-3 c = omega (arith, summed_none _ _ _ c.requires _ _ c.second_digit.ensures c.second_digits.ensures)

pub loop-arity-init : goal.loop-arity-init
loop-arity-init c = search summed_none

pub frame-requires-clause-n_bound : goal.frame-requires-clause-n_bound
frame-requires-clause-n_bound c = let p = c.requires in
    p.tables.most

pub frame-requires-clause-arity_bound : goal.frame-requires-clause-arity_bound
frame-requires-clause-arity_bound c = let p = c.requires in
    p.tables.arity c.loop-arity.arity-index (omega arith)

pub overflow_add-sum-in-loop-arity-2 : goal.overflow_add-sum-in-loop-arity-2
overflow_add-sum-in-loop-arity-2 c = omega (arith, summed_next _ _ _ c.requires _ _ _ c.loop-arity.invariant (omega arith) c.frame.ensures)

pub loop-arity-preserved : goal.loop-arity-preserved
loop-arity-preserved c = search summed_next

pub returns : goal.returns
returns c = search summed_text
