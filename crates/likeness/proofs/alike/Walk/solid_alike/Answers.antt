-- `solid_alike` meets its contract: the planes, then those of names, row by row.
use mathlib.Core.Path.{sym}
use Rattle.algebra.proofs.Powers.{power_two}
use Rattle.likeness.proofs.Likeness.{table_apart, table_by}
use Rattle.likeness.proofs.alike.Walk.solid_alike.Goals as goal

pub returns-then-parts_alike : goal.returns-then-parts_alike
returns-then-parts_alike c = table_by 2 (sym (power_two _)) c.parts_alike.ensures c.if-parts_alike.true c.planes_alike.ensures

pub returns-else-parts_alike : goal.returns-else-parts_alike
returns-else-parts_alike c = table_apart 2 (sym (power_two _)) c.parts_alike.ensures c.if-parts_alike.false
