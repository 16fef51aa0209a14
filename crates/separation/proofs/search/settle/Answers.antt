-- `settle`: skipped, spared by the bound, or tried.
use Rattle.separation.proofs.Standings.{standing_skip, standing_spared, bound_lent_up}
use Rattle.separation.proofs.search.settle.Goals as goal

pub returns-then-standing-y-clause-standing_2 : goal.returns-then-standing-y-clause-standing_2
returns-then-standing-y-clause-standing_2 c = search standing_skip

pub returns-then-up-x-clause-standing_2 : goal.returns-then-up-x-clause-standing_2
returns-then-up-x-clause-standing_2 c = search standing_spared

pub returns-clause-bound_lent_2 : goal.returns-clause-bound_lent_2
returns-clause-bound_lent_2 c = search bound_lent_up
