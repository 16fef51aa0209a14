-- The least congruence above a map that holds the pairs of a flat list: it is one, only one map is it, and to go on from it with further pairs is to take
-- all pairs at once. What Generate and Add give are cases.
-- first, so that a wrong definition is refused by an example that it makes false
use Rattle.theory.proofs.Examples.{TheoryExamples}
use Prim.Native.Nat.{ℕ, zero, suc, ◌%◌, ◌<◌}
use mathlib.Core.Bool.{Bool, true, ◌&&◌}
use mathlib.Core.List.{List, [], ◌∷◌, ◌++◌, Memᴰ as Member}
use mathlib.Core.Path.{◌≡◌, ap}
use native.Mathlib.Omega.{arith}
use lib.Dec.{T}
use lib.ListN.{length, get_or}
use Rattle.equivalence.specs.Equivalence.{Map, byte, holds, inside, identity, meet_all, best}
use Rattle.equivalence.specs.Lists.{keep}
use Rattle.pairorder.specs.Order.{Pair}
use Rattle.equivalence.proofs.Best.{best_law}
use Rattle.equivalence.proofs.Joins.{meet_all_best}
use Rattle.equivalence.proofs.Lists.{keep_member, of_keep}
use Rattle.equivalence.proofs.Maps.{Holds, holds_of, of_holds, Inside, inside_of, of_inside, map_ext, identity_discrete}
use Rattle.equivalence.proofs.Meets.{meet_all_holds}
use Rattle.equivalence.proofs.Tests.{both, left, right}
use Rattle.algebra.specs.Algebra.{Algebra}
use Rattle.algebra.specs.Congruence.{congruences}
use Rattle.algebra.proofs.Accepted.{WellFormed}
use Rattle.algebra.proofs.Congruences.{IsCongruence, member_congruences, of_congruences, meet_all_congruence}
use Rattle.theory.specs.Extremal.{holds_all, above, generated, extended}

-- the numbers of a flat list of pairs are elements
abbrev pub Below : ℕ → List ℕ → Type 0
Below n ps = (i : ℕ) → i < length ps → get_or ps i 0 < n

holds_all_meet : (n : ℕ) (ms : List Map) (ps : List ℕ) → Below n ps → ((m : Map) → Member m ms → T (holds_all ps m)) → T (holds_all ps (meet_all n ms))
unfolding holds_all
holds_all_meet n ms [] b h = tt
holds_all_meet n ms (x ∷ []) b h = tt
holds_all_meet n ms (x ∷ y ∷ ps) b h =
    both (holds (meet_all n ms) x y) (holds_all ps (meet_all n ms))
    (holds_of (meet_all n ms) x y
    (meet_all_holds n ms x y (b 0 (omega arith)) (b 1 (omega arith)) (λ m i. of_holds m x y (left (holds m x y) (holds_all ps m) (h m i)))))
    (holds_all_meet n ms ps (λ i l. b (suc (suc i)) (omega arith)) (λ m i. right (holds m x y) (holds_all ps m) (h m i)))

-- s is the least congruence that holds what m holds, and the pairs
pub record LeastAbove (a : Algebra) (m : Map) (ps : List ℕ) (s : Map) : Type 0 where
  pub cong : IsCongruence a s
  pub larger : Inside a.size m s
  pub all : T (holds_all ps s)
  pub least : (c : Map) → IsCongruence a c → Inside a.size m c → T (holds_all ps c) → Inside a.size s c

module _ (a : Algebra) (w : WellFormed a) (m : Map) (ps : List ℕ) (b : Below a.size ps) where
  wanted : Map → Bool
  wanted c = inside a.size m c && holds_all ps c

  pub above_law : LeastAbove a m ps (above a m ps)
  unfolding above wanted
  above_law =
      let n : ℕ = a.size in
      let ms : List Map = keep wanted (congruences a) in
      let part : (c : Map) → Member c ms → IsCongruence a c × Inside n m c × T (holds_all ps c) =
      λ c i. let r = of_keep wanted (congruences a) c i in
      (of_congruences a c r.0, of_inside n m c (left (inside n m c) (holds_all ps c) r.1), right (inside n m c) (holds_all ps c) r.1) in
      let make : (c : Map) → IsCongruence a c → Inside n m c → T (holds_all ps c) → Member c ms =
      λ c q h t. keep_member wanted (congruences a) c (member_congruences a c q) (both (inside n m c) (holds_all ps c) (inside_of n m c h) t) in
      let i : Member (meet_all n ms) ms =
      make (meet_all n ms) (meet_all_congruence a w ms (λ c j. (part c j).0)) (λ x y o q e. meet_all_holds n ms x y o q (λ c j. (part c j).1 x y o q e))
      (holds_all_meet n ms ps b (λ c j. (part c j).2)) in
      let r = best_law (inside n) ms (meet_all n ms) (meet_all_best n ms i) in
      let s = part (best (inside n) ms) r.member in
      record { cong = s.0; larger = s.1; all = s.2; least = λ c q h t. of_inside n (best (inside n) ms) c (r.before c (make c q h t)) }

  pub above_is : (s : Map) → LeastAbove a m ps s → above a m ps ≡ s
  above_is s h =
      let g = above_law in
      map_ext a.size (above a m ps) s g.cong.map h.cong.map (g.least s h.cong h.larger h.all) (h.least (above a m ps) g.cong g.larger g.all)

-- ---- above of above

holds_all_both : (ps qs : List ℕ) (m : Map) → length ps % 2 ≡ 0 → T (holds_all ps m) → T (holds_all qs m) → T (holds_all (ps ++ qs) m)
unfolding holds_all
holds_all_both [] qs m e s t = t
holds_all_both (x ∷ []) qs m e s t = absurd (omega (arith, e))
holds_all_both (x ∷ y ∷ ps) qs m e s t =
    both (holds m x y) (holds_all (ps ++ qs) m) (left (holds m x y) (holds_all ps m) s) (holds_all_both ps qs m (omega (arith, e)) (right (holds m x y) (holds_all ps m) s) t)

of_holds_all_both : (ps qs : List ℕ) (m : Map) → length ps % 2 ≡ 0 → T (holds_all (ps ++ qs) m) → T (holds_all ps m) × T (holds_all qs m)
unfolding holds_all
of_holds_all_both [] qs m e t = (tt, t)
of_holds_all_both (x ∷ []) qs m e t = absurd (omega (arith, e))
of_holds_all_both (x ∷ y ∷ ps) qs m e t =
    let r = of_holds_all_both ps qs m (omega (arith, e)) (right (holds m x y) (holds_all (ps ++ qs) m) t) in
    (both (holds m x y) (holds_all ps m) (left (holds m x y) (holds_all (ps ++ qs) m) t) r.0, r.1)

-- a larger equivalence holds the pairs too
holds_all_larger : (n : ℕ) (ps : List ℕ) → Below n ps → (m c : Map) → Inside n m c → T (holds_all ps m) → T (holds_all ps c)
unfolding holds_all
holds_all_larger n [] b m c i t = tt
holds_all_larger n (x ∷ []) b m c i t = tt
holds_all_larger n (x ∷ y ∷ ps) b m c i t =
    both (holds c x y) (holds_all ps c) (holds_of c x y (i x y (b 0 (omega arith)) (b 1 (omega arith)) (of_holds m x y (left (holds m x y) (holds_all ps m) t))))
    (holds_all_larger n ps (λ j l. b (suc (suc j)) (omega arith)) m c i (right (holds m x y) (holds_all ps m) t))

-- to go on from the least congruence above m with further pairs is to take all pairs at once
pub above_above : (a : Algebra) (w : WellFormed a) (m : Map) (ps qs : List ℕ) → length ps % 2 ≡ 0 → Below a.size ps → Below a.size qs → Below a.size (ps ++ qs)
    → above a (above a m ps) qs ≡ above a m (ps ++ qs)
above_above a w m ps qs even bp bq b =
    let g = above_law a w m ps bp in
    let h = above_law a w m (ps ++ qs) b in
    let t = of_holds_all_both ps qs (above a m (ps ++ qs)) even h.all in
    above_is a w (above a m ps) qs bq (above a m (ps ++ qs))
    (record {
      cong = h.cong;
      larger = g.least (above a m (ps ++ qs)) h.cong h.larger t.0;
      all = t.1;
      least = λ c q i s. h.least c q (λ x y l k e. i x y l k (g.larger x y l k e)) (holds_all_both ps qs c even (holds_all_larger a.size ps bp (above a m ps) c i g.all) s);
    })

-- ---- Generate: above the identity

pub record LeastHolding (a : Algebra) (ps : List ℕ) (m : Map) : Type 0 where
  pub cong : IsCongruence a m
  pub all : T (holds_all ps m)
  pub least : (c : Map) → IsCongruence a c → T (holds_all ps c) → Inside a.size m c

-- the identity lies inside every map
identity_inside : (n : ℕ) (c : Map) → Inside n (identity n) c
identity_inside n c x y l k e = ap (byte c) (identity_discrete n x y l k e)

module _ (a : Algebra) (w : WellFormed a) (ps : List ℕ) (b : Below a.size ps) where
  pub generated_law : LeastHolding a ps (generated a ps)
  unfolding generated
  generated_law =
      let g = above_law a w (identity a.size) ps b in
      record { cong = g.cong; all = g.all; least = λ c q t. g.least c q (identity_inside a.size c) t }

  pub generated_is : (m : Map) → LeastHolding a ps m → generated a ps ≡ m
  unfolding generated
  generated_is m g =
      above_is a w (identity a.size) ps b m
      (record { cong = g.cong; larger = identity_inside a.size m; all = g.all; least = λ c q i t. g.least c q t })

-- ---- Add: above a map, with one pair

-- s is the least congruence that holds p and what m holds
pub record LeastJoining (a : Algebra) (m : Map) (p : Pair) (s : Map) : Type 0 where
  pub cong : IsCongruence a s
  pub larger : Inside a.size m s
  pub new : Holds s p.0 p.1
  pub least : (c : Map) → IsCongruence a c → Inside a.size m c → Holds c p.0 p.1 → Inside a.size s c

module _ (a : Algebra) (w : WellFormed a) (m : Map) (x y : ℕ) (l : x < a.size) (k : y < a.size) where
  pair_below : Below a.size (x ∷ y ∷ [])
  pair_below zero i = l
  pair_below (suc zero) i = k
  pair_below (suc (suc j)) i = absurd (omega arith)

  pair_held : (c : Map) → Holds c x y → T (holds_all (x ∷ y ∷ []) c)
  unfolding holds_all
  pair_held c e = both (holds c x y) true (holds_of c x y e) tt

  of_pair_held : (c : Map) → T (holds_all (x ∷ y ∷ []) c) → Holds c x y
  unfolding holds_all
  of_pair_held c t = of_holds c x y (left (holds c x y) true t)

  pub extended_law : LeastJoining a m (x, y) (extended a m x y)
  unfolding extended
  extended_law =
      let g = above_law a w m (x ∷ y ∷ []) pair_below in
      record { cong = g.cong; larger = g.larger; new = of_pair_held (extended a m x y) g.all; least = λ c q h e. g.least c q h (pair_held c e) }

  pub extended_is : (s : Map) → LeastJoining a m (x, y) s → extended a m x y ≡ s
  unfolding extended
  extended_is s h =
      above_is a w m (x ∷ y ∷ []) pair_below s
      (record { cong = h.cong; larger = h.larger; all = pair_held s h.new; least = λ c q i t. h.least c q i (of_pair_held c t) })
