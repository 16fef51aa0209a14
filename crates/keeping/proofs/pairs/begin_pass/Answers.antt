-- `begin_pass`: two elements joined where nothing was.
use Rattle.keeping.proofs.Keepings.{nothing_ready, pass_started}
use Rattle.keeping.proofs.pairs.begin_pass.Goals as goal

pub merge-requires-clause-ready : goal.merge-requires-clause-ready
merge-requires-clause-ready c = search nothing_ready

pub returns : goal.returns
returns c = pass_started c.merge.ensures.grown c.merge.ensures.a_after c.requires.nothing_joined.fresh c.requires.nothing_joined.none c.requires.n_bound
