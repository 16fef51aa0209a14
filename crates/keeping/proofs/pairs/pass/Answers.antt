-- `pass`: x and y joined, and then their images with all elements as contexts.
use Rattle.algebra.specs.Algebra.{algebra_of}
use Rattle.algebra.proofs.Accepted.{accepted_well_formed}
use Rattle.keeping.proofs.Keepings.{all_contexts, pass_made}
use Rattle.keeping.proofs.pairs.pass.Goals as goal

pub begin_pass-requires-clause-n_bound : goal.begin_pass-requires-clause-n_bound
begin_pass-requires-clause-n_bound c = (accepted_well_formed (algebra_of c.args.n c.args.arities.now c.args.cells.now) c.requires.accepted).most

pub operations-requires-clause-contexts : goal.operations-requires-clause-contexts
operations-requires-clause-contexts c = all_contexts c.args.arities.now c.fresh-live.result c.requires.accepted c.fresh-live.ensures

pub returns : goal.returns
returns c = pass_made c.fresh-live.result c.operations.ensures c.begin_pass.ensures c.fresh-live.ensures c.requires.accepted c.requires.x_lt_y c.requires.y_lt_n
