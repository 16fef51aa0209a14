-- `sheetchanges::extended` meets its contract.
use Prim.Native.Nat.{ℕ}
use mathlib.Core.List.{List}
use mathlib.Core.Path.{ap}
use Rattle.sheet.specs.Sheet.{map_on, sheet_with}
use Rattle.sheet.specs.declared.Sheet.{Sheet}
use Rattle.sheetchanges.proofs.extended.Goals as goal

abbrev sheetOn : Sheet → List ℕ → Sheet
sheetOn s m = record { map = m; tally = s.tally; count = s.count; points = s.points }

pub extend_map-lost-requires : goal.extend_map-lost-requires
unfolding map_on
extend_map-lost-requires c = c.requires

pub returns : goal.returns
unfolding sheet_with map_on
returns c = let g = c.extend_map-lost.ensures in record { sheet = ap (sheetOn c.args.sheet) g.bytes; blocks = g.blocks; few = g.few }
