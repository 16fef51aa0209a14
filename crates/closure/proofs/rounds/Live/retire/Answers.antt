-- `retire`: the last takes the place.
use Rattle.closure.proofs.Closings.{retired_swap}
use Rattle.closure.proofs.rounds.Live.retire.Goals as goal

pub returns : goal.returns
returns c = retired_swap c.args.self.now.list c.args.self.now.places c.args.self.now.count c.requires.in_use c.requires.listed
