-- `plane_alike` meets its contract: the rows, then those of names, cell by cell.
use mathlib.Core.Path.{sym}
use Rattle.algebra.proofs.Powers.{power_one}
use Rattle.likeness.proofs.Likeness.{table_apart, table_by}
use Rattle.likeness.proofs.alike.Walk.plane_alike.Goals as goal

pub returns-then-parts_alike : goal.returns-then-parts_alike
returns-then-parts_alike c = table_by 1 (sym (power_one _)) c.parts_alike.ensures c.if-parts_alike.true c.lines_alike.ensures

pub returns-else-parts_alike : goal.returns-else-parts_alike
returns-else-parts_alike c = table_apart 1 (sym (power_one _)) c.parts_alike.ensures c.if-parts_alike.false
