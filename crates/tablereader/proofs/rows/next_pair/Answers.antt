-- `rows::next_pair` meets its contract, by the laws of Pairs.
use Rattle.tablereader.proofs.Pairs.{long_within, pair_long, pair_mixed}
use Rattle.tablereader.proofs.rows.next_pair.Goals as goal

pub long_pair-requires : goal.long_pair-requires
long_pair-requires c = search long_within

pub returns-then-long : goal.returns-then-long
returns-then-long c = pair_long _ _ _ _ c.if-long.true c.long_pair.ensures

pub returns-else-long : goal.returns-else-long
returns-else-long c = pair_mixed _ _ _ _ c.if-long.false c.mixed_pair.ensures
