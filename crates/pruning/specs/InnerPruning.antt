-- The second loop of Decompose: which maps of a list are needed, by their numbers.
use Rattle.std.specs.Prelude.{ℕ, ◌+◌, ◌*◌, ◌≤◌, ◌<◌, Bool, true, false, List, [], map, ◌≡◌, T, length, take}
use Rattle.equivalence.specs.Equivalence.{Map, byte, is_map, is_identity, meet}
use Rattle.equivalence.specs.Lent.{stretch, written}
use Rattle.theory.specs.Decompose.{pruned}
use Rattle.maplist.specs.InnerMapLists.{map_list}

-- a map of the list in its turn: dropped if those needed so far, which meet in `met`, and those behind it, which meet in `after`, meet in the
-- identity; else it is needed, and it is met
unfoldable pub in_turn : ℕ → Map → Map → Map → Bool × Map
in_turn n m after met = elim (is_identity n (meet n met after)) [ true ↦ (false, met) | false ↦ (true, written (meet n met m) met) ]

-- the maps of a slice whose numbers are the first k bytes of `places`
abbrev pub chosen : ℕ → List ℕ → ℕ → List ℕ → List Map
chosen n maps k places = map (stretch n maps) (take k places)

-- the first k bytes are numbers of maps in a slice
pub record ChosenMaps (n : ℕ) (maps : List ℕ) (k : ℕ) (places : List ℕ) : Type 0 where
  pub most : n ≤ 64
  pub room : k ≤ length places
  pub within : (j : ℕ) → j < k → byte places j * n + n ≤ length maps
  pub each : (j : ℕ) → j < k → T (is_map n (stretch n maps (byte places j)))

-- they are the numbers of the maps that are left of the list of so many maps
pub record NeededMaps (n count : ℕ) (maps : List ℕ) (k : ℕ) (places : List ℕ) : Type 0 where
  pub numbers : ChosenMaps n maps k places
  pub few : k ≤ count
  pub left : chosen n maps k places ≡ pruned n [] (map_list n count maps)
