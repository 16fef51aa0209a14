-- Decompose of an accepted algebra: what was gathered is a list of maps in a slice, and what is left of it are the factors; for n = 1 nothing is gathered.
use Prim.Native.Nat.{ℕ, ◌-◌, ◌*◌, ◌≤◌, ◌<◌}
use mathlib.Core.List.{List, []}
use mathlib.Core.Path.{◌≡◌, sym, ap, subst, ◌∙◌}
use native.Mathlib.Nat.{mul-le-mul_right}
use native.Mathlib.Omega.{arith}
use lib.ListN.{length, get_or, drop}
use Rattle.equivalence.specs.Equivalence.{Map, blocks, whole}
use Rattle.equivalence.specs.Lists.{concat}
use Rattle.equivalence.specs.Lent.{stretch, written}
use Rattle.equivalence.proofs.BlockNumbers.{blocks_some}
use Rattle.equivalence.proofs.Lists.{member_at, member_index}
use Rattle.equivalence.proofs.Maps.{IsMap, is_map_of, whole_map}
use Rattle.equivalence.proofs.Writing.{written_length}
use Rattle.algebra.specs.Algebra.{Algebra}
use Rattle.algebra.specs.Accepted.{Accepted}
use Rattle.algebra.proofs.Accepted.{WellFormed, accepted_well_formed}
use Rattle.theory.specs.Decompose.{gathered, pruned, listed, most_factor_space}
use Rattle.maplist.specs.InnerMapLists.{map_list, MapsListed}
use Rattle.theory.proofs.CommonPair.{common_pair_one}
use Rattle.theory.proofs.Factors.{Gathered, gathered_law, listed_law, split, most_factor_space_most}
use Rattle.maplist.proofs.MapLists.{map_list_at, map_list_concat, concat_length}
use Rattle.equivalence.specs.declared.Element.{Element}
use Rattle.gathering.specs.InnerGathering.{GatheredRight}
use Rattle.gathering.specs.declared.gather.Collected.{Collected}
use Rattle.gathering.specs.declared.gather.Collected.TheVariants.{All, Joined}
use Rattle.decomposition.specs.InnerFactored.{listed_in, irreducible_with, found_in}
use Rattle.equivalence.specs.declared.Refusal.{Refusal}
use Rattle.std.specs.Prelude.{Result, Ok}
use Rattle.decomposition.specs.declared.Decomposed.{Decomposed}
use Rattle.decomposition.specs.declared.Decomposed.TheVariants.{Irreducible}
use Rattle.decomposition.proofs.Finding.{found_reducible, found_irreducible}

module _ (a : Algebra) (accepted : Accepted a) where
  c : WellFormed a
  c = accepted_well_formed a accepted

  all : List Map
  all = gathered a.size a (whole a.size)

  gathered_all : Gathered a (whole a.size) all
  unfolding all
  gathered_all =
      let w : 1 ≤ blocks a.size (whole a.size) = blocks_some a.size (whole a.size) c.some (whole_map a.size) in
      gathered_law a c a.size (whole a.size) (whole_map a.size) (omega arith)

  all_map : (i : ℕ) → i < length all → IsMap a.size (get_or all i [])
  all_map i l = (gathered_all.each (get_or all i []) (member_at all i [] l)).4.cong.map

  few : length all ≤ a.size - 1
  few =
      let w : 1 ≤ blocks a.size (whole a.size) = blocks_some a.size (whole a.size) c.some (whole_map a.size) in
      omega (arith, gathered_all.short)

  -- what was gathered, as a list of maps in a slice
  module _ {k : ℕ} {bytes : List ℕ} (lent : List ℕ) (number : k ≡ length (gathered a.size a (whole a.size)))
      (laid : bytes ≡ written (concat (gathered a.size a (whole a.size))) lent)
      (room : most_factor_space a.size ≤ length lent) where
    map_list_all : map_list a.size k bytes ≡ gathered a.size a (whole a.size)
    unfolding written all
    map_list_all = rw (number, laid) (map_list_concat a.size all (drop (length (concat all)) lent) (λ i l. (all_map i l).long))

    gathered_few : k ≤ a.size - 1
    unfolding all
    gathered_few = omega (arith, few)

    maps_listed : MapsListed a.size k bytes
    unfolding all
    maps_listed =
        let enough : k * a.size ≤ length lent = omega (arith, room, mul-le-mul_right a.size gathered_few) in
        let total : length (concat all) ≡ length all * a.size = concat_length a.size all (λ m i. let j = member_index all m [] i in rw (← j.2) (all_map j.0 j.1).long) in
        let same : k * a.size ≡ length all * a.size = ap (λ (z : ℕ). z * a.size) number in
        record {
          some = c.some;
          most = c.most;
          few = omega (arith, gathered_few, c.most);
          room = rw (laid, written_length (concat all) lent (omega arith)) enough;
          each = λ i l. is_map_of a.size (stretch a.size bytes i)
              (subst (λ (m : Map). IsMap a.size m) (sym (sym (map_list_at a.size k bytes i l) ∙ ap (λ (ms : List Map). get_or ms i []) map_list_all)) (all_map i (omega arith)));
        }

    -- the factors: those of the list that are needed
    factors_left : pruned a.size [] (map_list a.size k bytes) ≡ listed a
    unfolding listed
    factors_left = ap (pruned a.size []) map_list_all

  -- 64 bytes are enough for a meet, and 4,032 for what is gathered
  pub meet_room : a.size ≤ 64
  meet_room = c.most

  pub gathered_room : most_factor_space a.size ≤ 4032
  gathered_room = most_factor_space_most a.size c.most

  -- where what is gathered has room
  module _ (maps : List ℕ) (room : most_factor_space a.size ≤ length maps) where
    module _ {r : Collected} {k : ℕ} (e : r ≡ All k) (after : List ℕ) (g : GatheredRight a r maps after) where
      all_gathered : GatheredRight a (All k) maps after
      all_gathered = subst (λ (z : Collected). GatheredRight a z maps after) e g

      pub gathered_listed : MapsListed a.size k after
      gathered_listed = maps_listed maps all_gathered.1 all_gathered.2 room

      pub gathered_count : k ≤ a.size - 1
      gathered_count = gathered_few maps all_gathered.1 all_gathered.2 room

      pub found_listed : (lent : List ℕ) {found : Result Decomposed Refusal} {lent' : List ℕ} → (found, lent') ≡ listed_in a.size (pruned a.size [] (map_list a.size k after)) lent
          → (found, lent') ≡ found_in a lent
      found_listed lent f =
          f ∙ ap (λ (ms : List Map). listed_in a.size ms lent) (factors_left maps all_gathered.1 all_gathered.2 room)
          ∙ sym (found_reducible a lent all_gathered.0)

  pub found_joined : (maps : List ℕ) {r : Collected} {x y : Element} → r ≡ Joined x y → (after lent : List ℕ) → GatheredRight a r maps after → (Ok (Irreducible x y), lent) ≡ found_in a lent
  unfolding irreducible_with
  found_joined maps e after lent g =
      let h = subst (λ (z : Collected). GatheredRight a z maps after) e g in sym (found_irreducible a lent h.0 ∙ rw h.1)

  -- 11 for n = 1: nothing is gathered
  pub found_one : a.size ≡ 1 → (lent : List ℕ) → (Ok (Irreducible (record { 0 = 0 }) (record { 0 = 0 })), lent) ≡ found_in a lent
  unfolding irreducible_with
  found_one e lent =
      sym (found_irreducible a lent (λ t. absurd (omega (arith, (listed_law a c).few, (split a c t).some))) ∙ rw (common_pair_one a c e))
