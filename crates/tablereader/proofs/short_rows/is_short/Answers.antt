-- `short_rows::is_short` meets its contract, by the laws of ShortRows.
use native.Mathlib.Omega.{arith}
use Rattle.tablereader.proofs.Pairs.{untrue}
use Rattle.tablereader.proofs.ShortRows.{between_none, between_more, between_all}
use Rattle.tablereader.proofs.short_rows.is_short.Goals as goal

pub loop-i-init : goal.loop-i-init
loop-i-init c = search between_none

pub loop-i-preserved : goal.loop-i-preserved
loop-i-preserved c =
    between_more _ _ _ _ _ _ c.loop-i.invariant _ c.two_bytes-item.ensures _ _ (omega arith, omega arith) (omega arith, omega arith)

pub returns-then-low-lt-FIRST_ITEM : goal.returns-then-low-lt-FIRST_ITEM
returns-then-low-lt-FIRST_ITEM c = untrue

pub returns : goal.returns
returns c = search between_all
