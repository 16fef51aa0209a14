-- What each call of this crate answers, and every lent byte after it.
use Rattle.std.specs.Prelude.{ℕ, List, [], ◌∷◌, length, ⊤, Result, Ok, Err}
use Rattle.equivalence.specs.Equivalence.{Map, meet, join}
use Rattle.equivalence.specs.Refusal.{Test, lowest, size_test, map_test, space_test, answered}
use Rattle.equivalence.specs.Lent.{lent_after}
use Rattle.equivalence.specs.declared.Refusal.{Refusal}

-- the tests of a call that is handed two maps and writes one: 1, 8, 9
abbrev pub two_maps_tests : ℕ → Map → Map → ℕ → List Test
two_maps_tests n a b room = size_test n ∷ map_test n a ∷ map_test n b ∷ space_test n room ∷ []

-- what they find
unfoldable pub two_maps_check : ℕ → Map → Map → List ℕ → Result ⊤ Refusal
two_maps_check n a b lent = lowest (two_maps_tests n a b (length lent))

-- a call that is handed two maps and writes a third
unfoldable pub two_maps_call : Map → ℕ → Map → Map → List ℕ → Result ⊤ Refusal × List ℕ
two_maps_call new n a b lent =
    (answered Err (two_maps_check n a b lent) (Ok tt), lent_after (two_maps_check n a b lent) new lent)

-- Meet
unfoldable pub meet_call : ℕ → Map → Map → List ℕ → Result ⊤ Refusal × List ℕ
meet_call n a b lent = two_maps_call (meet n a b) n a b lent

-- Join
unfoldable pub join_call : ℕ → Map → Map → List ℕ → Result ⊤ Refusal × List ℕ
join_call n a b lent = two_maps_call (join n a b) n a b lent
