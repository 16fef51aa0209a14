-- `take_apart`: the join is taken, or refused.
use mathlib.Core.Path.{refl}
use Rattle.keptsearch.proofs.Joining.{pair_refused, pair_taken}
use Rattle.keptsearch.proofs.pairs.take_apart.Goals as goal

pub returns-then-all-v : goal.returns-then-all-v
returns-then-all-v c = pair_refused c.requires.kept_standing c.requires.x_lt_y c.requires.y_lt_n c.args.m.now c.unite.new.all refl c.requires.generating c.unite.ensures c.if-all-v.true

pub returns : goal.returns
returns c = let u = c.unite in
    pair_taken c.requires.kept_standing c.requires.x_lt_y c.requires.y_lt_n c.args.m.now u.new.all refl c.requires.generating u.ensures c.if-all-v.false u.new.all refl
