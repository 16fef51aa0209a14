-- `list_needed`: those whose numbers are marked are what is left of the list.
use Rattle.decomposition.proofs.Finding.{needed_listed}
use Rattle.decomposition.proofs.list_needed.Goals as goal

pub returns : goal.returns
returns c = search needed_listed
