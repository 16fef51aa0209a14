-- Decompose's second loop, over a list of maps in a slice and the meets of its suffixes: which maps are needed. `Pruning` says what holds when the
-- maps below number i had their turn; laws start it, keep it and end it. What is written then is in `Writing.antt`.
use Prim.Native.Nat.{ℕ, suc, ◌+◌, ◌*◌, ◌≤◌, ◌<◌}
use mathlib.Core.Bool.{Bool, true, false}
use mathlib.Core.List.{List, [], ◌∷◌, ◌++◌, map, map-append}
use mathlib.Core.Path.{◌≡◌, refl, sym, ap, ◌∙◌}
use native.Mathlib.Numerals.{add-one}
use native.Mathlib.Decide.{ℕ_discrete}
use native.Mathlib.Omega.{arith}
use lib.ListN.{length, set, take, drop, drop_of_length-le, length-set}
use lib.Seq.{take-suc, take-set-le, get_or-set_same, get_or-set_other}
use Rattle.equivalence.proofs.Laying.{rest_whole}
use Rattle.equivalence.specs.Equivalence.{Map, byte, whole, is_identity, meet, meet_all}
use Rattle.kernel.specs.InnerKernel.{Canonical}
use Rattle.equivalence.specs.Lent.{stretch, written}
use Rattle.equivalence.proofs.Maps.{whole_map}
use Rattle.equivalence.proofs.Meets.{meet_map, meet_all_map}
use Rattle.equivalence.proofs.Tests.{T?, T_of, not_T_of, pick_yes, pick_no, true_is, false_is}
use Rattle.theory.specs.Decompose.{pruned}
use Rattle.maplist.specs.InnerMapLists.{map_list, MapsListed, SuffixMeets}
use Rattle.pruning.specs.InnerPruning.{in_turn, chosen, NeededMaps}
use Rattle.theory.proofs.Certificates.{is_identity_meets, of_is_identity_meets}
use Rattle.theory.proofs.Factors.{pruned_drop, pruned_keep}
use Rattle.maplist.proofs.MapLists.{Begins, begins_sym, begins_is, begins_take, begins_written, begins_canonical, begins_meet}
use Rattle.maplist.proofs.MapLists.{meet_all_append, meet_all_snoc, map_list_length, map_list_from, listed_map, listed_room, listed_begins, onwards}

-- ---- one turn

module _ (n : ℕ) (m after met : Map) where
  abbrev Turn : Type 0
  Turn = Bool × Map

  abbrev dropped : Turn
  dropped = (false, met)

  abbrev kept_too : Turn
  kept_too = (true, written (meet n met m) met)

  pub turn_drop : {r : Bool} → r ≡ is_identity n (meet n met after) → r ≡ true → ◌≡◌ {A = Turn} dropped (in_turn n m after met)
  unfolding in_turn
  turn_drop e t = sym (pick_yes (is_identity n (meet n met after)) dropped kept_too (T_of (sym e ∙ t)))

  pub turn_keep : {r : Bool} {met' : List ℕ} → r ≡ is_identity n (meet n met after) → r ≡ false → met' ≡ written (meet n met m) met
      → ◌≡◌ {A = Turn} (true, met') (in_turn n m after met)
  unfolding in_turn
  turn_keep e t f = rw f (sym (pick_no (is_identity n (meet n met after)) dropped kept_too (not_T_of (sym e ∙ t))))

-- ---- a number more among those of the maps that are chosen

module _ (n : ℕ) (maps : List ℕ) (kept i : ℕ) (needed : List ℕ) where
  chosen_more : kept < length needed → chosen n maps (kept + 1) (set needed kept i) ≡ chosen n maps kept needed ++ (stretch n maps i ∷ [])
  chosen_more l =
      let stored : List ℕ = set needed kept i in
      let last : take (kept + 1) stored ≡ take kept needed ++ (i ∷ []) =
      rw (add-one, take-suc stored kept 0 (rw (length-set needed kept i) l), take-set-le kept needed kept i (omega arith), get_or-set_same needed kept i 0 l) in
      ap (map (stretch n maps)) last ∙ map-append (stretch n maps) (take kept needed) (i ∷ [])

-- ---- the loop

pub record Pruning (n k : ℕ) (maps suffixes : List ℕ) (kept i : ℕ) (met needed : List ℕ) : Type 0 where
  pub listed : MapsListed n k maps
  pub ends : SuffixMeets n (map_list n k maps) suffixes
  pub behind : k * n + n ≤ length suffixes
  pub room : k ≤ length needed
  pub upto : i ≤ k
  pub few : kept ≤ i
  pub below : (j : ℕ) → j < kept → byte needed j < i
  pub left : pruned n [] (map_list n k maps) ≡ pruned n (chosen n maps kept needed) (drop i (map_list n k maps))
  pub meets : Begins n met (meet_all n (chosen n maps kept needed))

pub pruning_start : {n k : ℕ} {maps suffixes needed : List ℕ} (met : List ℕ) {met' : List ℕ} → MapsListed n k maps → SuffixMeets n (map_list n k maps) suffixes
    → k * n + n ≤ length suffixes → k ≤ length needed → met' ≡ written (whole n) met → Pruning n k maps suffixes 0 0 met' needed
unfolding meet_all
pruning_start {n} met p s b r e =
    record {
      listed = p;
      ends = s;
      behind = b;
      room = r;
      upto = omega arith;
      few = omega arith;
      below = λ j l. absurd (omega arith);
      left = refl;
      meets = begins_written (whole n) met e (whole_map n);
    }

module _ {n k : ℕ} {maps suffixes : List ℕ} {kept i : ℕ} {met needed : List ℕ} (p : Pruning n k maps suffixes kept i met needed) where
  -- when all had their turn, those chosen are what `pruned` leaves
  pub pruning_all : k ≤ i → NeededMaps n k maps kept needed
  unfolding pruned
  pruning_all h =
      let none : drop i (map_list n k maps) ≡ [] = drop_of_length-le (map_list n k maps) {i = i} (omega (arith, map_list_length n k maps)) in
      let small : (j : ℕ) → j < kept → byte needed j < k = λ j l. omega (arith, p.below j l, p.upto) in
      record {
        numbers = record {
          most = p.listed.most;
          room = omega (arith, p.few, p.room, p.upto);
          within = λ j l. listed_room p.listed (byte needed j) (small j l);
          each = λ j l. p.listed.each (byte needed j) (small j l);
        };
        few = omega (arith, p.few, p.upto);
        left = sym (p.left ∙ ap (pruned n (chosen n maps kept needed)) none);
      }

  module _ (l : i < k) where
    -- the map in its turn, and the meet of those behind it
    this : Begins n (onwards (i * n) maps) (stretch n maps i)
    this = rw (rest_whole (i * n) maps) (listed_begins p.listed i)

    after : Begins n (onwards ((i + 1) * n) suffixes) (meet_all n (drop (suc i) (map_list n k maps)))
    unfolding stretch
    after =
        rw (rest_whole ((i + 1) * n) suffixes, add-one)
        (begins_is (begins_sym (begins_take (drop (suc i * n) suffixes))) (p.ends (suc i) (omega (arith, map_list_length n k maps))))

    room_for : kept < length needed
    room_for = omega (arith, p.few, p.room)

    pub pruning_canonical : Canonical n (byte (onwards (i * n) maps)) × Canonical n (byte (onwards ((i + 1) * n) suffixes)) × Canonical n (byte met)
    pruning_canonical = (
      begins_canonical this (listed_map p.listed i l),
      begins_canonical after (meet_all_map n (drop (suc i) (map_list n k maps))),
      begins_canonical p.meets (meet_all_map n (chosen n maps kept needed)),
    )

    -- those chosen and those behind meet as the two meets do
    whole_list : meet_all n (chosen n maps kept needed ++ drop (suc i) (map_list n k maps)) ≡ meet n met (onwards ((i + 1) * n) suffixes)
    whole_list =
        meet_all_append n (chosen n maps kept needed) (drop (suc i) (map_list n k maps)) ∙ begins_meet (begins_sym p.meets) (begins_sym after)

    from : pruned n [] (map_list n k maps) ≡ pruned n (chosen n maps kept needed) (stretch n maps i ∷ drop (suc i) (map_list n k maps))
    from = p.left ∙ ap (pruned n (chosen n maps kept needed)) (map_list_from n k maps i l)

    -- it is dropped
    pub pruning_drop : {r : Bool} {met' : List ℕ} → r ≡ false → ◌≡◌ {A = Bool × Map} (r, met') (in_turn n (onwards (i * n) maps) (onwards ((i + 1) * n) suffixes) met)
        → Pruning n k maps suffixes kept (i + 1) met' needed
    pruning_drop {r} {met'} h f =
        let e : ◌≡◌ {A = Bool × Map} (false, met') (in_turn n (onwards (i * n) maps) (onwards ((i + 1) * n) suffixes) met) = ap (λ (b : Bool). (b, met')) (sym h) ∙ f in
        elim (T? (is_identity n (meet n met (onwards ((i + 1) * n) suffixes)))) [
          | yes t ↦
              let q : met' ≡ met = ap (λ (z : Bool × Map). z.1) (e ∙ sym (turn_drop n (onwards (i * n) maps) (onwards ((i + 1) * n) suffixes) met refl (sym (true_is _ t)))) in
              rw q (record {
                listed = p.listed;
                ends = p.ends;
                behind = p.behind;
                room = p.room;
                upto = omega arith;
                few = omega (arith, p.few);
                below = λ j h. omega (arith, p.below j h);
                left = rw add-one
                    (from ∙ pruned_drop n (chosen n maps kept needed) (drop (suc i) (map_list n k maps)) (stretch n maps i)
                    (of_is_identity_meets n (chosen n maps kept needed ++ drop (suc i) (map_list n k maps)) (rw whole_list t)));
                meets = p.meets;
              })
          | no t ↦
              let q : false ≡ true = ap (λ (z : Bool × Map). z.0) (e ∙ sym (turn_keep n (onwards (i * n) maps) (onwards ((i + 1) * n) suffixes) met refl (sym (false_is _ t)) refl)) in
              absurd (cc)
        ]

    -- it is needed
    pub pruning_keep : {r : Bool} {met' : List ℕ} → r ≡ true → ◌≡◌ {A = Bool × Map} (r, met') (in_turn n (onwards (i * n) maps) (onwards ((i + 1) * n) suffixes) met)
        → Pruning n k maps suffixes (kept + 1) (i + 1) met' (set needed kept i)
    pruning_keep {r} {met'} h f =
        let e : ◌≡◌ {A = Bool × Map} (true, met') (in_turn n (onwards (i * n) maps) (onwards ((i + 1) * n) suffixes) met) = ap (λ (b : Bool). (b, met')) (sym h) ∙ f in
        elim (T? (is_identity n (meet n met (onwards ((i + 1) * n) suffixes)))) [
          | yes t ↦
              let q : true ≡ false = ap (λ (z : Bool × Map). z.0) (e ∙ sym (turn_drop n (onwards (i * n) maps) (onwards ((i + 1) * n) suffixes) met refl (sym (true_is _ t)))) in
              absurd (cc)
          | no t ↦
              let q : met' ≡ written (meet n met (onwards (i * n) maps)) met =
              ap (λ (z : Bool × Map). z.1) (e ∙ sym (turn_keep n (onwards (i * n) maps) (onwards ((i + 1) * n) suffixes) met refl (sym (false_is _ t)) refl)) in
              let more = chosen_more n maps kept i needed room_for in
              rw q (record {
                listed = p.listed;
                ends = p.ends;
                behind = p.behind;
                room = rw (length-set needed kept i) p.room;
                upto = omega arith;
                few = omega (arith, p.few);
                below = λ j h. elim (ℕ_discrete j kept) [
                  | yes e ↦ rw (e, get_or-set_same needed kept i 0 room_for) (omega arith)
                  | no d ↦ rw (get_or-set_other needed kept j i 0 d) (omega (arith, p.below j (omega (arith, d))))
                ];
                left = rw (add-one i, more)
                    (from ∙ pruned_keep n (chosen n maps kept needed) (drop (suc i) (map_list n k maps)) (stretch n maps i)
                    (λ h. t (rw whole_list at (is_identity_meets n (chosen n maps kept needed ++ drop (suc i) (map_list n k maps)) h))));
                meets = rw more
                    (begins_is (begins_written (meet n met (onwards (i * n) maps)) met refl (meet_map n met (onwards (i * n) maps)))
                    (begins_meet p.meets this ∙ sym (meet_all_snoc n (chosen n maps kept needed) (stretch n maps i))));
              })
        ]
