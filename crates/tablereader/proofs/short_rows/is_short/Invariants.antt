-- `short_rows::is_short` meets its contract, by the laws of ShortRows.
use Rattle.tablereader.proofs.ShortRows.{ItemsBetween}
use Rattle.tablereader.proofs.short_rows.is_short.Given as goal

abbrev pub invariant-loop-i : goal.invariant-loop-i
invariant-loop-i l = ItemsBetween l.count l.text l.at l.i l.low l.high
