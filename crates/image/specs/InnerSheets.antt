-- What only the writer of today's image uses: its sheets as sheets of the third kind, whose maps and points are written as theirs.
use Rattle.sheet.specs.declared.Sheet.{Sheet}
use Rattle.oldbenches.specs.declared.SheetV3.{SheetV3}

-- a sheet without its tally
unfoldable pub without_tally : Sheet → SheetV3
without_tally s = record { map = s.map; count = s.count; points = s.points }
