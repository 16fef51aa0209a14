-- The pair that refusal 11 carries: the first that every congruence but the identity holds.
use Prim.Native.Nat.{ℕ, ◌≤◌, ◌<◌}
use mathlib.Core.Bool.{Bool, not}
use mathlib.Core.List.Memᴰ.{head as here}
use mathlib.Core.List.Memᴰ.{not-nil}
use mathlib.Core.List.{List, [], ◌∷◌, Memᴰ as Member}
use mathlib.Core.Logic.{◌⊎◌, ◌≢◌}
use mathlib.Core.Path.{◌≡◌, refl, sym, ap, subst, ◌∙◌}
use native.Mathlib.Omega.{arith}
use lib.Dec.{T, T_not, not_T}
use lib.ListN.{get_or}
use Rattle.equivalence.specs.Equivalence.{Map, byte, holds, blocks, identity, whole, is_identity, meet_all}
use Rattle.equivalence.specs.Lists.{every, keep, first}
use Rattle.pairorder.specs.Order.{Pair, pairs, first_held}
use Rattle.equivalence.proofs.BlockNumbers.{blocks_some}
use Rattle.equivalence.proofs.Lists.{of_every, keep_member, of_keep, member_at, member_index}
use Rattle.equivalence.proofs.Maps.{Holds, Discrete, identity_discrete, discrete_identity, whole_map, whole_holds, is_identity_of, of_is_identity}
use Rattle.equivalence.proofs.Meets.{meet_all_holds, of_meet_all, Meets, meets_of, of_meets}
use Rattle.pairorder.proofs.Pairs.{of_pairs, Lex, first_held_law, first_held_first, pairs_one}
use Rattle.algebra.specs.Algebra.{Algebra}
use Rattle.algebra.specs.Congruence.{congruences}
use Rattle.algebra.proofs.Accepted.{WellFormed}
use Rattle.algebra.proofs.Congruences.{IsCongruence, congruence_is, congruence_of, member_congruences, of_congruences}
use Rattle.theory.specs.Decompose.{gathered, listed, reducible, common_pair}
use Rattle.theory.specs.Splitting.{Splitting}
use Rattle.theory.proofs.Factors.{gathered_law, pruned_law, listed_law}
use Rattle.theory.proofs.Separation.{MaximalFor}

-- every congruence but the identity holds x and y
abbrev pub Common : Algebra → ℕ → ℕ → Type 0
Common a x y = (c : Map) → IsCongruence a c → c ≢ identity a.size → Holds c x y

-- p is the first pair that every congruence but the identity holds
pub record FirstCommon (a : Algebra) (p : Pair) : Type 0 where
  pub order : p.0 < p.1
  pub below : p.1 < a.size
  pub shared : Common a p.0 p.1
  pub first : (u v : ℕ) → u < v → v < a.size → Common a u v → (p ≡ (u, v)) ⊎ Lex p (u, v)

module _ (a : Algebra) (c : WellFormed a) where
  proper : Map → Bool
  proper d = not (is_identity a.size d)

  of_proper : (d : Map) → Member d (keep proper (congruences a)) → IsCongruence a d × ¬ Discrete a.size d
  unfolding proper
  of_proper d i =
      let r = of_keep proper (congruences a) d i in
      (of_congruences a d r.0, λ f. T_not (is_identity a.size d) r.1 (is_identity_of a.size d f))

  member_proper : (d : Map) → IsCongruence a d → d ≢ identity a.size → Member d (keep proper (congruences a))
  unfolding proper
  member_proper d p n =
      keep_member proper (congruences a) d (member_congruences a d p) (not_T (is_identity a.size d) (λ t. n (discrete_identity a.size d p.map (of_is_identity a.size d t))))

  -- where nothing splits the algebra, the congruences but the identity have a pair in common
  common : 2 ≤ a.size → ((ms : List Map) → ¬ Splitting a ms) → ¬ Discrete a.size (meet_all a.size (keep proper (congruences a)))
  common two none f =
      go (keep proper (congruences a)) of_proper (λ x y l k h. f x y l k (meet_all_holds a.size (keep proper (congruences a)) x y l k h))
    where
      go : (ms : List Map) → ((d : Map) → Member d ms → IsCongruence a d × ¬ Discrete a.size d) → Meets a.size ms → ⊥
      go [] h m = let e : ◌≡◌ {A = ℕ} 0 1 = m 0 1 (omega arith) (omega arith) (λ d i. absurd (not-nil i)) in omega arith
      go (d ∷ ms) h m =
          none (d ∷ ms)
          (record {
            some = omega arith;
            each = λ i l. let r = h (get_or (d ∷ ms) i []) (member_at (d ∷ ms) i [] l) in
                (congruence_of a (get_or (d ∷ ms) i []) r.0, λ e. r.1 (subst (λ (z : Map). Discrete a.size z) (sym e) (identity_discrete a.size)));
            meets = meets_of a.size (d ∷ ms) m;
          })

  pub common_pair_law : 2 ≤ a.size → ((ms : List Map) → ¬ Splitting a ms) → FirstCommon a (common_pair a)
  unfolding common_pair proper
  common_pair_law two none =
      let ms : List Map = keep proper (congruences a) in
      let m : Map = meet_all a.size ms in
      let r = first_held_law a.size m (common two none) in
      let q = of_pairs a.size (first_held a.size m) r.0 in
      let l : (first_held a.size m).0 < a.size = omega (arith, q.0, q.1) in
      record {
        order = q.0;
        below = q.1;
        shared = λ d p n. of_meet_all a.size ms (first_held a.size m).0 (first_held a.size m).1 l q.1 r.1 d (member_proper d p n);
        first = λ u v i j h. first_held_first a.size m u v i j
            (meet_all_holds a.size ms u v (omega arith) j (λ d k. let s = of_proper d k in h d s.0 (λ e. s.1 (subst (λ (z : Map). Discrete a.size z) (sym e) (identity_discrete a.size)))));
      }

  -- n = 1
  pub common_pair_one : a.size ≡ 1 → common_pair a ≡ (0, 0)
  unfolding common_pair first_held first
  common_pair_one e =
      ap (first (λ p. holds (meet_all a.size (keep (λ d. not (is_identity a.size d)) (congruences a))) p.0 p.1) (0, 0)) (ap pairs e ∙ pairs_one)

  -- ---- when to refuse: if and only if one that was gathered is the identity, or n = 1

  pub refuse_when : (m : Map) (x y : ℕ) → x < a.size → y < a.size → MaximalFor a m x y → Discrete a.size m → Common a x y
  refuse_when m x y l k p f d q n =
      p.joined d q (λ u v i j e. ap (byte d) (f u v i j e)) (λ e. n (e ∙ discrete_identity a.size m p.cong.map f))

  pub unsplit_when : (x y : ℕ) → x < a.size → y < a.size → x ≢ y → Common a x y → (ms : List Map) → ¬ Splitting a ms
  unsplit_when x y l k n h ms s =
      n (of_meets a.size ms s.meets x y l k
      (λ d i. let r = member_index ms d [] i in
      let e = s.each r.0 r.1 in
      subst (λ (z : Map). Holds z x y) r.2 (h (get_or ms r.0 []) (congruence_is a (get_or ms r.0 []) e.0) e.1)))

  pub reducible_when : 2 ≤ a.size → ((m : Map) → Member m (gathered a.size a (whole a.size)) → ¬ Discrete a.size m) → T (reducible a)
  unfolding reducible listed
  reducible_when two h =
      not_T (every (is_identity a.size) (listed a)) (λ t.
      go (listed a) (listed_law a c).meets member (λ m i. of_is_identity a.size m (of_every (is_identity a.size) (listed a) t m i)))
    where
      member : (m : Map) → Member m (listed a) → Member m (gathered a.size a (whole a.size))
      member m i =
          let w : 1 ≤ blocks a.size (whole a.size) = blocks_some a.size (whole a.size) c.some (whole_map a.size) in
          let g = gathered_law a c a.size (whole a.size) (whole_map a.size) (omega arith) in
          (pruned_law a.size [] (gathered a.size a (whole a.size)) (λ x y l k s. g.meets x y l k (whole_holds a.size x y l k) s) (λ j l. absurd (omega arith))).member m i

      go : (ms : List Map) → Meets a.size ms → ((m : Map) → Member m ms → Member m (gathered a.size a (whole a.size))) → ((m : Map) → Member m ms → Discrete a.size m) → ⊥
      go [] m s f = let e : ◌≡◌ {A = ℕ} 0 1 = m 0 1 (omega arith) (omega arith) (λ d i. absurd (not-nil i)) in omega arith
      go (d ∷ ms) m s f = h d (s d (here refl)) (f d (here refl))
