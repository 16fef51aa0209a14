-- The meets of a list's suffixes, from the last to the first: what holds when those from number i on are laid (`Suffixes`), and the laws that
-- start it, keep it and end it.
use Prim.Native.Nat.{ℕ, suc, ◌+◌, ◌-◌, ◌*◌, ◌≤◌, ◌<◌}
use mathlib.Core.List.{List, []}
use mathlib.Core.Path.{◌≡◌, sym, ap, ◌∙◌}
use native.Mathlib.Decide.{ℕ_discrete}
use native.Mathlib.Nat.{suc-mul, mul-le-mul_right}
use native.Mathlib.Omega.{arith}
use lib.ListN.{length, drop, drop_of_length-le}
use Rattle.equivalence.specs.Equivalence.{Map, byte, whole, meet, meet_all}
use Rattle.kernel.specs.InnerKernel.{Canonical}
use Rattle.equivalence.specs.Lent.{stretch, written, laid}
use Rattle.equivalence.proofs.Maps.{IsMap, whole_map}
use Rattle.equivalence.proofs.Meets.{meet_map, meet_all_map}
use Rattle.maplist.specs.InnerMapLists.{map_list, MapsListed, SuffixMeets}
use Rattle.maplist.proofs.MapLists.{Begins, onwards, begins_is, begins_written, begins_canonical, begins_meet, meet_comm}
use Rattle.maplist.proofs.MapLists.{map_list_length, map_list_from, listed_map, listed_begins, laid_stretch, laid_later}
use Rattle.equivalence.proofs.Laying.{laid_length, laid_from}
use borrow.Rule.Slice.PartMut.{put_mid}

pub record Suffixes (n k : ℕ) (maps : List ℕ) (i : ℕ) (met bytes : List ℕ) : Type 0 where
  pub listed : MapsListed n k maps
  pub room : k * n + n ≤ length bytes
  pub upto : i ≤ k
  pub meets : Begins n met (meet_all n (drop i (map_list n k maps)))
  pub done : (j : ℕ) → i ≤ j → j ≤ k → stretch n bytes j ≡ meet_all n (drop j (map_list n k maps))

-- no map is behind the last
pub suffixes_start : {n k : ℕ} {maps : List ℕ} (met lent rest : List ℕ) {met' : List ℕ} → MapsListed n k maps → k * n + n ≤ length lent
    → met' ≡ written (whole n) met → rest ≡ written (whole n) (onwards (k * n) lent)
    → Suffixes n k maps k met' (put_mid (k * n) (length lent - k * n) lent rest)
unfolding meet_all
suffixes_start {n} {k} {maps} met lent rest p room e g =
    let w = whole_map n in
    let f : put_mid (k * n) (length lent - k * n) lent rest ≡ laid lent (k * n) (whole n) =
    ap (put_mid (k * n) (length lent - k * n) lent) g ∙ laid_from (k * n) lent (whole n) (omega arith) in
    let none : drop k (map_list n k maps) ≡ [] = drop_of_length-le (map_list n k maps) {i = k} (omega (arith, map_list_length n k maps)) in
    record {
      listed = p;
      room = rw (f, laid_length lent (k * n) (whole n) (omega (arith, w.long))) room;
      upto = omega arith;
      meets = rw none (begins_written (whole n) met e w);
      done = λ j h l. let is : j ≡ k = omega arith in rw (is, none, f) (laid_stretch n k lent (whole n) w.long room);
    }

module _ {n k : ℕ} {maps : List ℕ} {i : ℕ} {met bytes : List ℕ} (s : Suffixes n k maps i met bytes) where
  pub suffixes_canonical : Canonical n (byte met)
  suffixes_canonical = begins_canonical s.meets (meet_all_map n (drop i (map_list n k maps)))

  -- where all are laid
  pub suffixes_all : i ≡ 0 → SuffixMeets n (map_list n k maps) bytes
  suffixes_all e j l = s.done j (omega arith) (omega (arith, map_list_length n k maps))

  module _ (some : 0 < i) where
    one_less : i - 1 < k
    one_less = omega (arith, s.upto)

    pub suffixes_fits : (i - 1) * n + n ≤ length bytes
    suffixes_fits = omega (arith, s.room, suc-mul (i - 1) n, mul-le-mul_right n one_less)

    this : Begins n (drop ((i - 1) * n) maps) (stretch n maps (i - 1))
    this = listed_begins s.listed (i - 1)

    pub suffixes_this : Canonical n (byte (drop ((i - 1) * n) maps))
    suffixes_this = begins_canonical this (listed_map s.listed (i - 1) one_less)

    -- one map more in front
    pub suffixes_more : {met' bytes' : List ℕ} → met' ≡ written (meet n met (drop ((i - 1) * n) maps)) met → bytes' ≡ laid bytes ((i - 1) * n) (meet n met (drop ((i - 1) * n) maps))
        → Suffixes n k maps (i - 1) met' bytes'
    unfolding meet_all
    suffixes_more e f =
        let m : Map = meet n met (drop ((i - 1) * n) maps) in
        let t : IsMap n m = meet_map n met (drop ((i - 1) * n) maps) in
        let next : suc (i - 1) ≡ i = omega arith in
        let new : m ≡ meet_all n (drop (i - 1) (map_list n k maps)) =
        meet_comm n met (drop ((i - 1) * n) maps) ∙ begins_meet this (begins_is s.meets (ap (λ (j : ℕ). meet_all n (drop j (map_list n k maps))) (sym next)))
        ∙ ap (meet_all n) (sym (map_list_from n k maps (i - 1) one_less)) in
        record {
          listed = s.listed;
          room = rw (f, laid_length bytes ((i - 1) * n) m (omega (arith, t.long, suffixes_fits))) s.room;
          upto = omega (arith, s.upto);
          meets = begins_is (begins_written m met e t) new;
          done = λ j h l. rw f (elim (ℕ_discrete j (i - 1)) [
            | yes is ↦ rw is (laid_stretch n (i - 1) bytes m t.long suffixes_fits ∙ new)
            | no is ↦ laid_later n (i - 1) j bytes m t.long suffixes_fits (omega arith) ∙ s.done j (omega arith) l
          ]);
        }
