-- `sheet::maps::is_map` meets its contract, by the laws of MapSums: one for each return.
use mathlib.Core.Path.{refl}
use Rattle.sheet.proofs.MapSums.{none_exceeding, is_map_exceeding, is_map_sums}
use Rattle.sheet.proofs.maps.is_map.Goals as goal

pub returns-then-count_above-ne0 : goal.returns-then-count_above-ne0
returns-then-count_above-ne0 c = search is_map_exceeding

pub sum_named-requires-clause-by_index : goal.sum_named-requires-clause-by_index
sum_named-requires-clause-by_index c = none_exceeding _ _ c.count_above.ensures c.if-count_above-ne0.false

pub returns : goal.returns
returns c = is_map_sums _ _ c.count_above.ensures c.if-count_above-ne0.false refl c.sum_named.ensures c.sum_bytes.ensures
