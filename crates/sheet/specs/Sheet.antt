-- A sheet: a map, a tally, and places for points, each a name with a map to go back to.
use Rattle.std.specs.Prelude.{ℕ, ◌+◌, [], take, replicate}
use Rattle.equivalence.specs.Equivalence.{Map}
use Rattle.equivalence.specs.Lent.{written}
use Rattle.sheet.specs.declared.Point.{Point}
use Rattle.sheet.specs.declared.Sheet.{Sheet}

-- the map on a sheet over n: its first n bytes
unfoldable pub map_on : ℕ → Sheet → Map
map_on n s = take n s.map

-- a place of zeros
unfoldable pub zero_point : Point
zero_point = record { name = replicate 8 0; map = replicate 64 0 }

-- a sheet of zeros: it holds no point
unfoldable pub zero_sheet : Sheet
zero_sheet = record { map = replicate 64 0; tally = 0; count = 0; points = replicate 8 zero_point }

-- a sheet with another map; the bytes past it, the tally and the points stay
unfoldable pub sheet_with : Map → Sheet → Sheet
sheet_with m s = record { map = written m s.map; tally = s.tally; count = s.count; points = s.points }

-- a sheet with its tally raised
unfoldable pub raised_by : ℕ → Sheet → Sheet
raised_by lost s = record { map = s.map; tally = s.tally + lost; count = s.count; points = s.points }

-- no point: what stands past the last place
abbrev pub no_point : Point
no_point = record { name = []; map = [] }

-- no sheet: what stands past the last one of a bench
abbrev pub no_sheet : Sheet
no_sheet = record { map = []; tally = 0; count = 0; points = [] }
