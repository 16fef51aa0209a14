-- `benchsheets::zeros` meets its contract.
use Rattle.benchsheets.specs.State.{zero_bench}
use Rattle.benchsheets.proofs.zeros.Goals as goal

pub returns : goal.returns
unfolding zero_bench
returns c = rw (c.eight_of.ensures, c.zeros.ensures)
