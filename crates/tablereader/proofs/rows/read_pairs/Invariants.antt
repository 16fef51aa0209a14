-- `rows::read_pairs` meets its contract, by the laws of Begun and Pairs.
use Rattle.tablereader.specs.InnerRows.{RowWithin, RowBegun}
use Rattle.tablereader.proofs.rows.read_pairs.Given as goal

abbrev pub invariant-loop-more : goal.invariant-loop-more
invariant-loop-more l = RowBegun l.n l.text l.initial.here.at l.initial.cells l.initial.here.put l.cells l.more l.here.at l.here.put × RowWithin l.long l.more l.text l.here.at

abbrev pub decreases-loop-more : goal.decreases-loop-more
decreases-loop-more l = l.more
