-- `sheet::points::is_full_for` meets its contract.
use mathlib.Core.Bool.{true, false, not}
use mathlib.Core.Path.{◌≡◌}
use borrow.Author.Rules.{rules}
use Rattle.sheet.specs.Points.{is_full_for}
use Rattle.sheet.proofs.points.is_full_for.Goals as goal

pub returns-then-not-is_held : goal.returns-then-not-is_held
unfolding is_full_for
returns-then-not-is_held c = let new : not c.is_held.result ≡ true = search rules in rw (← c.is_held.ensures, new)

pub returns-else-not-is_held : goal.returns-else-not-is_held
unfolding is_full_for
returns-else-not-is_held c = let held : not c.is_held.result ≡ false = search rules in rw (← c.is_held.ensures, held)
