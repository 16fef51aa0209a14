-- Certify's third condition, over a list of maps in a slice and the meets of its suffixes: what holds when no map below number i can be left out
-- (`Needed`), and the laws that start it, keep it and end it.
use Prim.Native.Nat.{ℕ, suc, ◌+◌, ◌*◌, ◌≤◌, ◌<◌}
use mathlib.Core.Bool.{Bool, true, false, not}
use mathlib.Core.List.{List, [], ◌∷◌, ◌++◌}
use mathlib.Core.Path.{◌≡◌, sym, ap, ◌∙◌}
use native.Mathlib.Decide.{ℕ_discrete}
use native.Mathlib.Numerals.{add-one}
use native.Mathlib.Omega.{arith}
use lib.Dec.{T, T_not, not_T}
use lib.ListN.{length, take, drop}
use lib.Seq.{take-suc}
use Rattle.equivalence.proofs.Laying.{rest_whole}
use Rattle.equivalence.specs.Equivalence.{Map, byte, whole, is_identity, meet, meet_all}
use Rattle.kernel.specs.InnerKernel.{Canonical}
use Rattle.equivalence.specs.Lists.{up_to, every, without}
use Rattle.equivalence.specs.Lent.{stretch, written}
use Rattle.equivalence.proofs.Lists.{below_of, of_below}
use Rattle.equivalence.proofs.Maps.{whole_map}
use Rattle.equivalence.proofs.Meets.{meet_map, meet_all_map}
use Rattle.equivalence.proofs.Tests.{T_of, not_T_of, true_is, false_is}
use Rattle.maplist.specs.InnerMapLists.{map_list, MapsListed, SuffixMeets}
use Rattle.maplist.proofs.MapLists.{Begins, begins_sym, begins_is, begins_take, begins_written, begins_canonical, begins_meet, meet_all_append, meet_all_snoc, map_list_length, map_list_at, listed_map, listed_begins, onwards}

pub record Needed (n k : ℕ) (maps suffixes : List ℕ) (i : ℕ) (met : List ℕ) : Type 0 where
  pub listed : MapsListed n k maps
  pub meets : SuffixMeets n (map_list n k maps) suffixes
  pub behind : k * n + n ≤ length suffixes
  pub upto : i ≤ k
  pub front : Begins n met (meet_all n (take i (map_list n k maps)))
  pub needed : (j : ℕ) → j < i → T (not (is_identity n (meet_all n (without j (map_list n k maps)))))

pub needed_start : {n k : ℕ} {maps suffixes : List ℕ} (met : List ℕ) {met' : List ℕ} → MapsListed n k maps → SuffixMeets n (map_list n k maps) suffixes
    → k * n + n ≤ length suffixes → met' ≡ written (whole n) met → Needed n k maps suffixes 0 met'
unfolding meet_all
needed_start {n} met p s b e =
    record {
      listed = p;
      meets = s;
      behind = b;
      upto = omega arith;
      front = begins_written (whole n) met e (whole_map n);
      needed = λ j l. absurd (omega arith);
    }

module _ {n k : ℕ} {maps suffixes : List ℕ} {i : ℕ} {met : List ℕ} (t : Needed n k maps suffixes i met) where
  pub needed_canonical : Canonical n (byte met)
  needed_canonical = begins_canonical t.front (meet_all_map n (take i (map_list n k maps)))

  -- all are needed
  pub needed_all : k ≤ i → true ≡ every (λ j. not (is_identity n (meet_all n (without j (map_list n k maps))))) (up_to (length (map_list n k maps)))
  needed_all e = true_is _ (below_of (length (map_list n k maps)) _ (λ j l. t.needed j (omega (arith, map_list_length n k maps))))

  module _ (l : i < k) where
    this : Begins n (onwards (i * n) maps) (stretch n maps i)
    this = rw (rest_whole (i * n) maps) (listed_begins t.listed i)

    after : Begins n (onwards ((i + 1) * n) suffixes) (meet_all n (drop (suc i) (map_list n k maps)))
    unfolding stretch
    after =
        rw (rest_whole ((i + 1) * n) suffixes, add-one)
        (begins_is (begins_sym (begins_take (drop (suc i * n) suffixes))) (t.meets (suc i) (omega (arith, map_list_length n k maps))))

    pub needed_this : Canonical n (byte (onwards (i * n) maps))
    needed_this = begins_canonical this (listed_map t.listed i l)

    pub needed_after : Canonical n (byte (onwards ((i + 1) * n) suffixes))
    needed_after = begins_canonical after (meet_all_map n (drop (suc i) (map_list n k maps)))

    -- those before the map and those behind it meet in the list without it
    left_out : is_identity n (meet n met (onwards ((i + 1) * n) suffixes)) ≡ is_identity n (meet_all n (without i (map_list n k maps)))
    left_out = ap (is_identity n) (begins_meet t.front after ∙ sym (meet_all_append n (take i (map_list n k maps)) (drop (suc i) (map_list n k maps))))

    -- the map can be left out, and the answer is no
    pub needed_fails : {r : Bool} → r ≡ is_identity n (meet n met (onwards ((i + 1) * n) suffixes)) → r ≡ true
        → false ≡ every (λ j. not (is_identity n (meet_all n (without j (map_list n k maps))))) (up_to (length (map_list n k maps)))
    needed_fails e f =
        false_is _ (λ s. T_not (is_identity n (meet_all n (without i (map_list n k maps)))) (of_below (length (map_list n k maps)) (λ j. not (is_identity n (meet_all n (without j (map_list n k maps))))) s i (omega (arith, map_list_length n k maps))) (T_of (sym left_out ∙ sym e ∙ f)))

    -- it cannot, and is met
    pub needed_more : {r : Bool} {met' : List ℕ} → r ≡ is_identity n (meet n met (onwards ((i + 1) * n) suffixes)) → r ≡ false → met' ≡ written (meet n met (onwards (i * n) maps)) met
        → Needed n k maps suffixes (i + 1) met'
    needed_more {r} {met'} e f g =
        let one : i + 1 ≡ suc i = omega arith in
        let snoc : take (suc i) (map_list n k maps) ≡ take i (map_list n k maps) ++ (stretch n maps i ∷ []) = take-suc (map_list n k maps) i [] (omega (arith, map_list_length n k maps)) ∙ ap (λ (m : Map). take i (map_list n k maps) ++ (m ∷ [])) (map_list_at n k maps i l) in
        record {
          listed = t.listed;
          meets = t.meets;
          behind = t.behind;
          upto = omega arith;
          front = rw (one, snoc) (begins_is (begins_written (meet n met (onwards (i * n) maps)) met g (meet_map n met (onwards (i * n) maps)))
              (begins_meet t.front this ∙ sym (meet_all_snoc n (take i (map_list n k maps)) (stretch n maps i))));
          needed = λ j h. elim (ℕ_discrete j i) [
            | yes is ↦ rw is (not_T (is_identity n (meet_all n (without i (map_list n k maps)))) (not_T_of (sym left_out ∙ sym e ∙ f)))
            | no is ↦ t.needed j (omega arith)
          ];
        }
