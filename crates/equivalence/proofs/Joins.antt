-- Joins: the least upper bound of two maps.
use Prim.Native.Nat.{ℕ}
use mathlib.Core.Bool.{Bool, ◌&&◌}
use mathlib.Core.List.{List, Memᴰ as Member}
use mathlib.Core.Path.{◌≡◌}
use Rattle.equivalence.specs.Equivalence.{Map, inside, meet_all, maps, best, join}
use Rattle.equivalence.specs.Lists.{keep}
use Rattle.equivalence.proofs.AllMaps.{maps_sound, maps_complete}
use Rattle.equivalence.proofs.Best.{Best, best_law}
use Rattle.equivalence.proofs.Lists.{keep_member, of_keep}
use Rattle.equivalence.proofs.Maps.{IsMap, Inside, inside_of, of_inside, map_ext}
use Rattle.equivalence.proofs.Meets.{meet_all_map, meet_all_holds, of_meet_all}
use Rattle.equivalence.proofs.Tests.{both, left, right}

-- where the meet of all members is a member, it is the least
pub meet_all_best : (n : ℕ) (ms : List Map) → Member (meet_all n ms) ms → Best (inside n) ms (meet_all n ms)
meet_all_best n ms i =
    record { member = i; before = λ c j. inside_of n (meet_all n ms) c (λ x y l k e. of_meet_all n ms x y l k e c j) }

pub record LeastUpper (n : ℕ) (a b m : Map) : Type 0 where
  pub map : IsMap n m
  pub left : Inside n a m
  pub right : Inside n b m
  pub least : (e : Map) → IsMap n e → Inside n a e → Inside n b e → Inside n m e

module _ (n : ℕ) (a b : Map) where
  above : Map → Bool
  above e = inside n a e && inside n b e

  pub join_law : LeastUpper n a b (join n a b)
  unfolding join above
  join_law =
      let ms : List Map = keep above (maps n) in
      let all : Map = meet_all n ms in
      let in-a : Inside n a all = λ x y l k e. meet_all_holds n ms x y l k (λ c i. of_inside n a c (left (inside n a c) (inside n b c) (of_keep above (maps n) c i).1) x y l k e) in
      let in_b : Inside n b all = λ x y l k e. meet_all_holds n ms x y l k (λ c i. of_inside n b c (right (inside n a c) (inside n b c) (of_keep above (maps n) c i).1) x y l k e) in
      let i : Member all ms =
      keep_member above (maps n) all (maps_complete n all (meet_all_map n ms)) (both (inside n a all) (inside n b all) (inside_of n a all in-a) (inside_of n b all in_b)) in
      let r = best_law (inside n) ms all (meet_all_best n ms i) in
      let s = of_keep above (maps n) (best (inside n) ms) r.member in
      record {
        map = maps_sound n (best (inside n) ms) s.0;
        left = of_inside n a (best (inside n) ms) (left (inside n a (best (inside n) ms)) (inside n b (best (inside n) ms)) s.1);
        right = of_inside n b (best (inside n) ms) (right (inside n a (best (inside n) ms)) (inside n b (best (inside n) ms)) s.1);
        least = λ e p f g. of_inside n (best (inside n) ms) e
            (r.before e (keep_member above (maps n) e (maps_complete n e p) (both (inside n a e) (inside n b e) (inside_of n a e f) (inside_of n b e g))));
      }

  pub join_is : (m : Map) → LeastUpper n a b m → join n a b ≡ m
  join_is m j =
      let k = join_law in
      map_ext n (join n a b) m k.map j.map (k.least m j.map j.left j.right) (j.least (join n a b) k.map k.left k.right)
