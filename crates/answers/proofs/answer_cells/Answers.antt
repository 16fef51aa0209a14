-- `answers::answer_cells` meets its contract, by the laws of Answering.
use Rattle.answers.proofs.Answering.{cells_zeros}
use Rattle.answers.proofs.answer_cells.Goals as goal

pub answer_quotient-requires : goal.answer_quotient-requires
answer_quotient-requires c = cells_zeros _ _ _ c.requires
