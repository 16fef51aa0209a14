-- Separate: the earliest congruence that holds two elements apart is one, only one map is it, and every strictly larger congruence joins them.
use Prim.Native.Nat.{ℕ, ◌<◌}
use mathlib.Core.Bool.{not}
use mathlib.Core.List.{Memᴰ as Member}
use mathlib.Core.Logic.{inl, inr, ◌≢◌}
use mathlib.Core.Path.{◌≡◌}
use native.Mathlib.Omega.{arith}
use lib.Dec.{T, T_not, not_T}
use Rattle.equivalence.specs.Equivalence.{Map, holds, identity}
use Rattle.equivalence.specs.Lists.{keep}
use Rattle.pairorder.specs.Order.{Pair, not_later}
use Rattle.equivalence.proofs.Best.{Best, best_is, best_of}
use Rattle.pairorder.proofs.Earlier.{not_later_total, not_later_trans, not_later_anti, larger_not_later}
use Rattle.equivalence.proofs.Lists.{keep_member, of_keep}
use Rattle.equivalence.proofs.Maps.{Holds, holds_of, of_holds, Inside, identity_discrete}
use Rattle.pairorder.proofs.Pairs.{Lex}
use Rattle.equivalence.proofs.Tests.{T?}
use Rattle.algebra.specs.Algebra.{Algebra}
use Rattle.algebra.specs.Congruence.{congruences}
use Rattle.algebra.proofs.Accepted.{WellFormed}
use Rattle.algebra.proofs.Congruences.{IsCongruence, member_congruences, of_congruences, identity_congruence}
use Rattle.theory.specs.Extremal.{separated}

-- m holds x and y apart, and each strictly larger congruence joins them
pub record MaximalFor (a : Algebra) (m : Map) (x y : ℕ) : Type 0 where
  pub cong : IsCongruence a m
  pub apart : ¬ Holds m x y
  pub joined : (c : Map) → IsCongruence a c → Inside a.size m c → c ≢ m → Holds c x y

-- the congruence that the document names
pub record EarliestApart (a : Algebra) (v w : ℕ) (m : Map) : Type 0 where
  pub cong : IsCongruence a m
  pub apart : ¬ Holds m v w
  pub earliest : (c : Map) → IsCongruence a c → ¬ Holds c v w → T (not_later a.size m c)

-- the definition gives it
pub separated_earliest : (a : Algebra) → WellFormed a → (v w : ℕ) → v < a.size → w < a.size → v ≢ w → EarliestApart a v w (separated a v w)
unfolding separated
separated_earliest a c v w l k d =
    record {
      cong = of_congruences a (separated a v w) mine.0;
      apart = λ e. T_not (holds (separated a v w) v w) mine.1 (holds_of (separated a v w) v w e);
      earliest = λ e p h. b.before e (keep_member _ (congruences a) e (member_congruences a e p) (not_T (holds e v w) (λ t. h (of_holds e v w t))));
    }
  where
    b : Best (not_later a.size) (keep (λ c. not (holds c v w)) (congruences a)) (separated a v w)
    b = best_of (not_later a.size) (not_later_total a.size) (not_later_trans a.size) (keep (λ c. not (holds c v w)) (congruences a)) (identity a.size)
        (keep_member (λ c. not (holds c v w)) (congruences a) (identity a.size) (member_congruences a (identity a.size) (identity_congruence a c))
        (not_T (holds (identity a.size) v w) (λ t. d (identity_discrete a.size v w l k (of_holds (identity a.size) v w t)))))

    mine : Member (separated a v w) (congruences a) × T (not (holds (separated a v w) v w))
    mine = of_keep (λ c. not (holds c v w)) (congruences a) (separated a v w) b.member

-- and so every strictly larger congruence joins v and w: it would be earlier
pub separated_law : (a : Algebra) → WellFormed a → (v w : ℕ) → v < a.size → w < a.size → v ≢ w → MaximalFor a (separated a v w) v w
separated_law a c v w l k d =
    let s = separated_earliest a c v w l k d in
    record {
      cong = s.cong;
      apart = s.apart;
      joined = λ e p h g. elim (T? (holds e v w)) [
        | yes t ↦ of_holds e v w t
        | no t ↦ absurd (g (not_later_anti a.size e (separated a v w) p.map s.cong.map (larger_not_later a.size e (separated a v w) h)
            (s.earliest e p (λ q. t (holds_of e v w q)))))
      ];
    }

pub separated_is : (a : Algebra) (v w : ℕ) (m : Map) → EarliestApart a v w m → separated a v w ≡ m
unfolding separated
separated_is a v w m s =
    best_is (not_later a.size) (keep (λ c. not (holds c v w)) (congruences a)) (λ c d i j. not_later_anti a.size c d (part c i).0.map (part d j).0.map) m
    (record {
      member = keep_member (λ c. not (holds c v w)) (congruences a) m (member_congruences a m s.cong) (not_T (holds m v w) (λ t. s.apart (of_holds m v w t)));
      before = λ c i. s.earliest c (part c i).0 (part c i).1;
    })
  where
    part : (c : Map) → Member c (keep (λ c. not (holds c v w)) (congruences a)) → IsCongruence a c × ¬ Holds c v w
    part c i =
        let r = of_keep (λ c. not (holds c v w)) (congruences a) c i in
        (of_congruences a c r.0, λ e. T_not (holds c v w) r.1 (holds_of c v w e))

-- of two pairs only one comes before the other
pub lex_asym : (p q : Pair) → Lex p q → Lex q p → ⊥
lex_asym p q b c = elim b [
  | inl o ↦ elim c [ inl i ↦ omega arith | inr i ↦ omega (arith, i.0) ]
  | inr o ↦ elim c [ inl i ↦ omega (arith, o.0) | inr i ↦ omega (arith, o.1, i.1) ]
]
