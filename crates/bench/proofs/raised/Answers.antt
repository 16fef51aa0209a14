-- `bench::raised` meets its contract.
use mathlib.Core.Path.{sym}
use native.Mathlib.Omega.{arith}
use Rattle.sheet.specs.Sheet.{raised_by}
use Rattle.bench.proofs.Calling.{tally_refused, tally_passed}
use Rattle.bench.proofs.raised.Goals as goal

pub returns-then-lost-left : goal.returns-then-lost-left
returns-then-lost-left c = sym (tally_refused _ _ _ (omega arith))

pub returns : goal.returns
unfolding raised_by
returns c = rw c.with_sheet.ensures (sym (tally_passed _ _ _ (omega arith)))
