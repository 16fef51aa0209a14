-- Lists of maps in a slice: map i stands in the n bytes from i × n on. Decompose and Certify work on such lists.
use Rattle.std.specs.Prelude.{ℕ, ◌*◌, ◌≤◌, ◌<◌, ◌≡◌, List, map, T, length, drop}
use Rattle.equivalence.specs.Lists.{up_to}
use Rattle.equivalence.specs.Lent.{stretch}
use Rattle.equivalence.specs.Equivalence.{Map, is_map, meet_all}

-- the first k maps of a slice
unfoldable pub map_list : ℕ → ℕ → List ℕ → List Map
map_list n k bytes = map (stretch n bytes) (up_to k)

-- the first k stretches of a slice are maps, at most 63
pub record MapsListed (n k : ℕ) (bytes : List ℕ) : Type 0 where
  pub some : 1 ≤ n
  pub most : n ≤ 64
  pub few : k ≤ 63
  pub room : k * n ≤ length bytes
  pub each : (i : ℕ) → i < k → T (is_map n (stretch n bytes i))

-- stretch i is the meet of the maps of the list from number i on
abbrev pub SuffixMeets : ℕ → List Map → List ℕ → Type 0
SuffixMeets n ms bytes = (i : ℕ) → i ≤ length ms → stretch n bytes i ≡ meet_all n (drop i ms)
