-- What is found of an algebra, by cases: the factors, that there is too little room for them, or the pair that 11 carries. Then what is written of the maps that are needed.
use Prim.Native.Nat.{ℕ, ◌*◌, ◌≤◌, ◌<◌}
use mathlib.Core.List.{List, []}
use mathlib.Core.Path.{◌≡◌, sym, ap, ◌∙◌}
use native.Mathlib.Nat.{mul-le-mul}
use native.Mathlib.Omega.{arith}
use lib.Dec.{T, ltb, ltb→lt, lt→ltb}
use lib.ListN.{length, take, length-map}
use lib.Seq.{length-take-le}
use mir.Syntax.{w64}
use mir.Val.{Fits}
use Rattle.equivalence.specs.Equivalence.{Map}
use Rattle.equivalence.specs.Lists.{concat}
use Rattle.equivalence.specs.Lent.{stretch, written}
use Rattle.equivalence.proofs.Tests.{pick_yes, pick_no}
use Rattle.algebra.specs.Algebra.{Algebra}
use Rattle.theory.specs.Decompose.{pruned, listed, reducible, common_pair}
use Rattle.maplist.specs.InnerMapLists.{map_list}
use Rattle.pruning.specs.InnerPruning.{chosen, ChosenMaps, NeededMaps}
use Rattle.decomposition.specs.InnerFactored.{listed_in, irreducible_with, found_in}
use Rattle.equivalence.specs.declared.Refusal.TheVariants.{Space}
use Rattle.equivalence.specs.declared.Refusal.{Refusal}
use Rattle.std.specs.Prelude.{Result, Ok, Err}
use Rattle.decomposition.specs.declared.Decomposed.{Decomposed}
use Rattle.decomposition.specs.declared.Decomposed.TheVariants.{Factors}

module _ (n : ℕ) (ms : List Map) (lent : List ℕ) where
  abbrev none : Result Decomposed Refusal × List ℕ
  none = (Err Space, lent)

  abbrev all : Result Decomposed Refusal × List ℕ
  all = (Ok (Factors (length ms)), written (concat ms) lent)

  pub listed_short : length lent < length ms * n → listed_in n ms lent ≡ none
  unfolding listed_in
  listed_short h = pick_yes (ltb (length lent) (length ms * n)) none all (lt→ltb (length lent) (length ms * n) h)

  pub listed_all : length ms * n ≤ length lent → listed_in n ms lent ≡ all
  unfolding listed_in
  listed_all h = pick_no (ltb (length lent) (length ms * n)) none all (λ t. omega (arith, ltb→lt (length lent) (length ms * n) t))

module _ (a : Algebra) (lent : List ℕ) where
  abbrev joined : Result Decomposed Refusal × List ℕ
  joined = (Ok (irreducible_with (common_pair a)), lent)

  pub found_reducible : T (reducible a) → found_in a lent ≡ listed_in a.size (listed a) lent
  unfolding found_in
  found_reducible t = pick_yes (reducible a) (listed_in a.size (listed a) lent) joined t

  pub found_irreducible : ¬ T (reducible a) → found_in a lent ≡ joined
  unfolding found_in
  found_irreducible t = pick_no (reducible a) (listed_in a.size (listed a) lent) joined t

-- ---- written where there is room

module _ {n : ℕ} {maps : List ℕ} {k : ℕ} {needed : List ℕ} (c : ChosenMaps n maps k needed) where
  -- as many are chosen as there are numbers
  chosen_length : length (chosen n maps k needed) ≡ k
  chosen_length = length-map (take k needed) (stretch n maps) ∙ length-take-le k needed c.room

  -- and their bytes are counted in a word
  pub chosen_counted : k ≤ 63 → Fits w64 (k * n)
  chosen_counted few = omega (arith, mul-le-mul {n₂ = 63} {m₂ = 64} few c.most)

  module _ (lent : List ℕ) where
    pub room_short : length lent < k * n → ◌≡◌ {A = Result Decomposed Refusal × List ℕ} (Err Space, lent) (listed_in n (chosen n maps k needed) lent)
    room_short h = sym (listed_short n (chosen n maps k needed) lent (rw chosen_length h))

    pub room_enough : k * n ≤ length lent → {after : List ℕ} → after ≡ written (concat (chosen n maps k needed)) lent
        → ◌≡◌ {A = Result Decomposed Refusal × List ℕ} (Ok (Factors k), after) (listed_in n (chosen n maps k needed) lent)
    room_enough h e = sym (listed_all n (chosen n maps k needed) lent (rw chosen_length h) ∙ rw (chosen_length, e))

-- what is needed of a list of maps
pub needed_listed : {n count : ℕ} {maps : List ℕ} {kept : ℕ} {needed : List ℕ} (lent : List ℕ) {found : Result Decomposed Refusal} {after : List ℕ}
    → NeededMaps n count maps kept needed → (found, after) ≡ listed_in n (chosen n maps kept needed) lent
    → (found, after) ≡ listed_in n (pruned n [] (map_list n count maps)) lent
needed_listed {n} lent m e = e ∙ ap (λ (ms : List Map). listed_in n ms lent) m.left
