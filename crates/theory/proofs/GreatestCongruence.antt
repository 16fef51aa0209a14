-- Contained: the greatest congruence inside a map is one, and only one map is it.
use Prim.Native.Nat.{ℕ}
use mathlib.Core.Bool.{Bool}
use mathlib.Core.List.Memᴰ.{cases_cons}
use mathlib.Core.List.Memᴰ.{head as here}
use mathlib.Core.List.Memᴰ.{not-nil}
use mathlib.Core.List.Memᴰ.{tail as there}
use mathlib.Core.List.{List, [], ◌∷◌, Memᴰ as Member}
use mathlib.Core.Logic.{inl, inr}
use mathlib.Core.Path.{◌≡◌, refl, sym, ap, subst}
use Rattle.equivalence.specs.Equivalence.{Map, byte, inside, identity, best, join}
use Rattle.equivalence.specs.Lists.{keep}
use Rattle.equivalence.proofs.Best.{best_law}
use Rattle.equivalence.proofs.Joins.{join_law}
use Rattle.equivalence.proofs.Lists.{keep_member, of_keep}
use Rattle.equivalence.proofs.Maps.{IsMap, Inside, inside_of, of_inside, map_ext, identity_discrete}
use Rattle.algebra.specs.Algebra.{Algebra}
use Rattle.algebra.specs.Congruence.{congruences}
use Rattle.algebra.proofs.Accepted.{WellFormed}
use Rattle.algebra.proofs.Congruences.{IsCongruence, member_congruences, of_congruences, identity_congruence, join_congruence}
use Rattle.theory.specs.Extremal.{contained}

pub record GreatestInside (a : Algebra) (e m : Map) : Type 0 where
  pub cong : IsCongruence a m
  pub inside : Inside a.size m e
  pub greatest : (c : Map) → IsCongruence a c → Inside a.size c e → Inside a.size c m

module _ (a : Algebra) (c : WellFormed a) (e : Map) (p : IsMap a.size e) where
  -- a congruence inside e, above all of a list of congruences inside e
  upper : (ms : List Map) → ((m : Map) → Member m ms → IsCongruence a m × Inside a.size m e)
      → (u : Map) × IsCongruence a u × Inside a.size u e × ((m : Map) → Member m ms → Inside a.size m u)
  upper [] h = (identity a.size, identity_congruence a c, λ x y l k g. ap (byte e) (identity_discrete a.size x y l k g), λ m i. absurd (not-nil i))
  upper (m ∷ ms) h =
      let r = upper ms (λ k i. h k (there i)) in
      let q = h m (here refl) in
      let j = join_law a.size m r.0 in (
        join a.size m r.0,
        join_congruence a c m r.0 q.0 r.1,
        j.least e p q.1 r.2,
        λ k i. elim (cases_cons i) [
          | inl s ↦ subst (λ (z : Map). Inside a.size z (join a.size m r.0)) (sym s) j.left
          | inr t ↦ λ x y l o g. j.right x y l o (r.3 k t x y l o g)
        ],
      )

  pub contained_law : GreatestInside a e (contained a e)
  unfolding contained
  contained_law =
      let n : ℕ = a.size in
      let test : Map → Bool = λ c. inside n c e in
      let order : Map → Map → Bool = λ c d. inside n d c in
      let ms : List Map = keep test (congruences a) in
      let each : (m : Map) → Member m ms → IsCongruence a m × Inside n m e =
      λ m i. let r = of_keep test (congruences a) m i in (of_congruences a m r.0, of_inside n m e r.1) in
      let u = upper ms each in
      let i : Member u.0 ms = keep_member test (congruences a) u.0 (member_congruences a u.0 u.1) (inside_of n u.0 e u.2) in
      let r = best_law order ms u.0 (record { member = i; before = λ d j. inside_of n d u.0 (u.3 d j) }) in
      let s = each (best order ms) r.member in
      record {
        cong = s.0;
        inside = s.1;
        greatest = λ d q h. of_inside n d (best order ms) (r.before d (keep_member test (congruences a) d (member_congruences a d q) (inside_of n d e h)));
      }

  pub contained_is : (m : Map) → GreatestInside a e m → contained a e ≡ m
  contained_is m g =
      let k = contained_law in
      map_ext a.size (contained a e) m k.cong.map g.cong.map (g.greatest (contained a e) k.cong k.inside) (k.greatest m g.cong g.inside)
