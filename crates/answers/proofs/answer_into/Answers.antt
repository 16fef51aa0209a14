-- `answers::answer_into` meets its contract, by the laws of Answering.
use native.Mathlib.Omega.{arith}
use Rattle.answers.proofs.Answering.{map_part, map_zeros, factors_part, factors_zeros, factors_short, fits_alone, answered_as}
use Rattle.answers.specs.Answers.{answer}
use Rattle.answers.proofs.answer_into.Goals as goal

pub slice_bounds-answer_generate-end : goal.slice_bounds-answer_generate-end
slice_bounds-answer_generate-end c = search map_part

pub answer_generate-requires : goal.answer_generate-requires
answer_generate-requires c = search map_zeros

pub slice_bounds-answer_contained-end : goal.slice_bounds-answer_contained-end
slice_bounds-answer_contained-end c = search map_part

pub answer_contained-requires : goal.answer_contained-requires
answer_contained-requires c = search map_zeros

pub slice_bounds-answer_separate-end : goal.slice_bounds-answer_separate-end
slice_bounds-answer_separate-end c = search map_part

pub answer_separate-requires : goal.answer_separate-requires
answer_separate-requires c = search map_zeros

pub overflow_mul-n : goal.overflow_mul-n
overflow_mul-n c = let n = c.args.n in omega (arith, factors_short n (omega arith))

pub slice_bounds-answer_decompose-end : goal.slice_bounds-answer_decompose-end
slice_bounds-answer_decompose-end c = search factors_part

pub answer_decompose-requires : goal.answer_decompose-requires
answer_decompose-requires c = search factors_zeros

pub answer_cells-requires : goal.answer_cells-requires
answer_cells-requires c = search fits_alone

pub returns-in-Generate : goal.returns-in-Generate
returns-in-Generate c = search answered_as

pub returns-in-Contained : goal.returns-in-Contained
returns-in-Contained c = search answered_as

pub returns-in-Separate : goal.returns-in-Separate
unfolding answer
returns-in-Separate c = search answered_as

pub returns-in-Decompose : goal.returns-in-Decompose
unfolding answer
returns-in-Decompose c = search answered_as

pub returns-in-Quotient : goal.returns-in-Quotient
returns-in-Quotient c = search answered_as
