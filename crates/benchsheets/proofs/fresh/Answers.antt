-- `benchsheets::fresh` meets its contract.
use Rattle.benchsheets.specs.State.{fresh_bench}
use Rattle.benchsheets.proofs.fresh.Goals as goal

pub returns : goal.returns
unfolding fresh_bench
returns c = rw (c.eight_of.ensures, c.with_identity-identity.ensures, c.zeros-zero.ensures)
