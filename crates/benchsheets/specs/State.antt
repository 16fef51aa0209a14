-- The bench: eight sheets over one n, and what was lost before the sheets had tallies of their own.
use Rattle.std.specs.Prelude.{ℕ, ◌-◌, get_or, set, replicate}
use Rattle.equivalence.specs.Equivalence.{Map, identity, blocks}
use Rattle.sheet.specs.Sheet.{zero_sheet, sheet_with, no_sheet}
use Rattle.sheet.specs.declared.Sheet.{Sheet}
use Rattle.benchsheets.specs.declared.Bench.{Bench}

-- a bench over n with eight equal sheets, and nothing lost earlier
unfoldable pub eight_of : ℕ → Sheet → Bench
eight_of n s = record { n = n; earlier = 0; sheets = replicate 8 s }

-- a bench of zeros
unfoldable pub zero_bench : Bench
zero_bench = eight_of 0 zero_sheet

-- the bench over n with the identity, tally 0 and no points on every sheet
unfoldable pub fresh_bench : ℕ → Bench
fresh_bench n = eight_of n (sheet_with (identity n) zero_sheet)

-- sheet number k
unfoldable pub sheet_of : Bench → ℕ → Sheet
sheet_of b k = get_or b.sheets k no_sheet

-- the bench with another sheet k
unfoldable pub with_sheet : Bench → ℕ → Sheet → Bench
with_sheet b k s = record { n = b.n; earlier = b.earlier; sheets = set b.sheets k s }

-- the bench with another map on sheet k
unfoldable pub with_map : Bench → ℕ → Map → Bench
with_map b k m = with_sheet b k (sheet_with m (sheet_of b k))

-- how many blocks fewer the new map has than the old
unfoldable pub blocks_lost : ℕ → Map → Map → ℕ
blocks_lost n old new = blocks n old - blocks n new
