-- Certify says yes to just the lists that document 01 describes, and to whatever Decompose lists.
use Prim.Native.Nat.{ℕ, ◌<◌}
use mathlib.Core.Bool.{Bool, not, ◌&&◌, ◌||◌}
use mathlib.Core.List.{List, map, Memᴰ as Member}
use mathlib.Core.Logic.{inl, inr}
use mathlib.Core.Path.{◌≡◌, sym, ap, subst}
use native.Mathlib.Decide.{dec_lt}
use native.Mathlib.Omega.{arith}
use lib.Dec.{T, T_not, not_T}
use lib.ListN.{length, get_or}
use Rattle.equivalence.specs.Equivalence.{Map, is_map, holds, inside, is_identity, meet_all}
use Rattle.equivalence.specs.Lists.{up_to, every, any, without}
use Rattle.pairorder.specs.Order.{Pair, pairs}
use Rattle.equivalence.proofs.Lists.{every_of, of_every, any_of, of_any, below_of, of_below}
use Rattle.equivalence.proofs.Maps.{Holds, holds_of, of_holds, inside_of, of_inside, map_ext, is_identity_of, of_is_identity}
use Rattle.equivalence.proofs.Meets.{meet_all_holds, of_meet_all, Meets}
use Rattle.pairorder.proofs.Pairs.{member_pairs, of_pairs}
use Rattle.equivalence.proofs.Tests.{T?, both, left, right, implies, implied, or_left, or_right, or_cases}
use Rattle.algebra.specs.Algebra.{Algebra}
use Rattle.algebra.specs.Congruence.{respects, is_congruence, congruences}
use Rattle.algebra.proofs.Accepted.{WellFormed}
use Rattle.algebra.proofs.Congruences.{IsCongruence, congruence_is, congruence_of, member_congruences, of_congruences}
use Rattle.theory.specs.Certify.{is_maximal_for, certified}
use Rattle.theory.specs.Decompose.{listed}
use Rattle.theory.proofs.Factors.{listed_law}
use Rattle.theory.proofs.Separation.{MaximalFor}

module _ (a : Algebra) (m : Map) where
  of_is_maximal_for : IsCongruence a m → (p : Pair) → T (is_maximal_for a m p) → MaximalFor a m p.0 p.1
  unfolding is_maximal_for
  of_is_maximal_for q p t =
      record {
        cong = q;
        apart = λ e. T_not (holds m p.0 p.1) (left (not (holds m p.0 p.1)) _ t) (holds_of m p.0 p.1 e);
        joined = λ c r h n.
            let each = of_every _ (congruences a) (right (not (holds m p.0 p.1)) _ t) c (member_congruences a c r) in
            let larger = implied (inside a.size m c) (inside a.size c m || holds c p.0 p.1) each (inside_of a.size m c h) in
            elim (or_cases (inside a.size c m) (holds c p.0 p.1) larger) [
              | inl s ↦ absurd (n (map_ext a.size c m r.map q.map (of_inside a.size c m s) h))
              | inr s ↦ of_holds c p.0 p.1 s
            ];
      }

  pub is_maximal_for_of : (p : Pair) → MaximalFor a m p.0 p.1 → T (is_maximal_for a m p)
  unfolding is_maximal_for
  is_maximal_for_of p k =
      both (not (holds m p.0 p.1)) _ (not_T (holds m p.0 p.1) (λ t. k.apart (of_holds m p.0 p.1 t)))
      (every_of _ (congruences a)
      (λ c i. implies (inside a.size m c) (inside a.size c m || holds c p.0 p.1)
      (λ t. elim (T? (inside a.size c m)) [
        | yes s ↦ or_left (inside a.size c m) (holds c p.0 p.1) s
        | no s ↦ or_right (inside a.size c m) (holds c p.0 p.1)
            (holds_of c p.0 p.1
            (k.joined c (of_congruences a c i) (of_inside a.size m c t)
            (λ e. s (inside_of a.size c m (λ x y l j h. subst (λ (z : Map). Holds z x y) e h)))))
      ])))

  maximal_for_swap : (x y : ℕ) → MaximalFor a m x y → MaximalFor a m y x
  maximal_for_swap x y k = record { cong = k.cong; apart = λ e. k.apart (sym e); joined = λ c q h n. sym (k.joined c q h n) }

  pub any_is_maximal_for : (x y : ℕ) → x < a.size → y < a.size → MaximalFor a m x y → T (any (is_maximal_for a m) (pairs a.size))
  any_is_maximal_for x y l j k =
      elim (dec_lt x y) [
        | yes h ↦ any_of (is_maximal_for a m) (pairs a.size) (x, y) (member_pairs a.size x y h j) (is_maximal_for_of (x, y) k)
        | no h ↦ elim (dec_lt y x) [
          | yes g ↦ any_of (is_maximal_for a m) (pairs a.size) (y, x) (member_pairs a.size y x g l) (is_maximal_for_of (y, x) (maximal_for_swap x y k))
          | no g ↦ let e : x ≡ y = omega arith in absurd (k.apart (ap (λ (z : ℕ). get_or m z 0) e))
        ]
      ]

  pub of_any_is_maximal_for : IsCongruence a m → T (any (is_maximal_for a m) (pairs a.size)) → (x : ℕ) × (y : ℕ) × (x < a.size) × (y < a.size) × MaximalFor a m x y
  of_any_is_maximal_for q t =
      let s = of_any (is_maximal_for a m) (pairs a.size) t in
      let o = of_pairs a.size s.0 s.1 in
      (s.0.0, s.0.1, omega (arith, o.0, o.1), o.1, of_is_maximal_for q s.0 s.2)

pub record IsCertified (a : Algebra) (ms : List Map) : Type 0 where
  pub each : (m : Map) → Member m ms → IsCongruence a m
  pub meets : Meets a.size ms
  pub needed : (i : ℕ) → i < length ms → ¬ Meets a.size (without i ms)
  pub maximal : (m : Map) → Member m ms → (x : ℕ) × (y : ℕ) × (x < a.size) × (y < a.size) × MaximalFor a m x y

pub is_identity_meets : (n : ℕ) (ms : List Map) → Meets n ms → T (is_identity n (meet_all n ms))
is_identity_meets n ms h = is_identity_of n (meet_all n ms) (λ x y l k e. h x y l k (of_meet_all n ms x y l k e))

pub of_is_identity_meets : (n : ℕ) (ms : List Map) → T (is_identity n (meet_all n ms)) → Meets n ms
of_is_identity_meets n ms t x y l k h = of_is_identity n (meet_all n ms) t x y l k (meet_all_holds n ms x y l k h)

module _ (a : Algebra) (ms : List Map) where
  -- the conditions but the last, as tests
  abbrev congruent : Bool
  congruent = every (λ m. is_map a.size m && is_congruence a m) ms

  abbrev meet_is_identity : Bool
  meet_is_identity = is_identity a.size (meet_all a.size ms)

  abbrev each_needed : Bool
  each_needed = every (λ i. not (is_identity a.size (meet_all a.size (without i ms)))) (up_to (length ms))

  pub certified_of : IsCertified a ms → T (certified a ms)
  unfolding certified
  certified_of c =
      both (congruent && meet_is_identity && each_needed) _
      (both (congruent && meet_is_identity) _
      (both congruent _
      (every_of _ ms (λ m i. let q = congruence_of a m (c.each m i) in both (is_map a.size m) (is_congruence a m) q.map q.respects))
      (is_identity_meets a.size ms c.meets))
      (below_of (length ms) _ (λ i l. not_T (is_identity a.size (meet_all a.size (without i ms))) (λ t. c.needed i l (of_is_identity_meets a.size (without i ms) t)))))
      (every_of _ ms (λ m i. let p = c.maximal m i in any_is_maximal_for a m p.0 p.1 p.2 p.3 p.4))

  pub of_certified : T (certified a ms) → IsCertified a ms
  unfolding certified
  of_certified t =
      let four : Bool = every (λ m. any (is_maximal_for a m) (pairs a.size)) ms in
      let t3 : T (congruent && meet_is_identity && each_needed) = left (congruent && meet_is_identity && each_needed) four t in
      let t2 : T (congruent && meet_is_identity) = left (congruent && meet_is_identity) each_needed t3 in
      let each : (m : Map) → Member m ms → IsCongruence a m =
      λ m i. let s = of_every (λ m. is_map a.size m && is_congruence a m) ms (left congruent meet_is_identity t2) m i in
      congruence_is a m (record { map = left (is_map a.size m) (is_congruence a m) s; respects = right (is_map a.size m) (is_congruence a m) s }) in
      record {
        each = each;
        meets = of_is_identity_meets a.size ms (right congruent meet_is_identity t2);
        needed = λ i l h. T_not (is_identity a.size (meet_all a.size (without i ms)))
            (of_below (length ms) (λ i. not (is_identity a.size (meet_all a.size (without i ms)))) (right (congruent && meet_is_identity) each_needed t3) i l)
            (is_identity_meets a.size (without i ms) h);
        maximal = λ m i. of_any_is_maximal_for a m (each m i) (of_every (λ m. any (is_maximal_for a m) (pairs a.size)) ms (right (congruent && meet_is_identity && each_needed) four t) m i);
      }

-- whatever Decompose lists gets yes
pub listed_certified : (a : Algebra) → WellFormed a → T (certified a (listed a))
listed_certified a c =
    let f = listed_law a c in
    certified_of a (listed a) (record { each = λ m i. (f.maximal m i).4.cong; meets = f.meets; needed = f.needed; maximal = f.maximal })
