-- Meets: the greatest lower bound of two maps, and of a list.
use Prim.Native.Nat.{ℕ, ◌<◌}
use mathlib.Core.Bool.{◌&&◌}
use mathlib.Core.List.Memᴰ.{cases_cons}
use mathlib.Core.List.Memᴰ.{head as here}
use mathlib.Core.List.Memᴰ.{not-nil}
use mathlib.Core.List.Memᴰ.{tail as there}
use mathlib.Core.List.{List, [], ◌∷◌, Memᴰ as Member}
use mathlib.Core.Logic.{inl, inr}
use mathlib.Core.Path.{◌≡◌, refl, sym, subst, ◌∙◌}
use lib.Dec.{T}
use Rattle.equivalence.specs.Equivalence.{Map, byte, holds, identity, meet, meet_all}
use Rattle.equivalence.proofs.Maps.{Holds, holds_of, of_holds, IsMap, Inside, IsEquivalence, map_of_holds}
use Rattle.equivalence.proofs.Maps.{of_map_of, map_of_map, map_of_byte, map_ext, identity_discrete, discrete_identity, whole_map, whole_holds}
use Rattle.equivalence.proofs.Tests.{both, left, right}

module _ (n : ℕ) (a b : Map) where
  both_equiv : IsEquivalence n (λ x y. holds a x y && holds b x y)
  both_equiv =
      record {
        same = λ x l. make x x refl refl;
        swap = λ x y l k t. make y x (sym (one x y t)) (sym (two x y t));
        chain = λ x y z l k j t s. make x z (one x y t ∙ one y z s) (two x y t ∙ two y z s);
      }
    where
      make : (x y : ℕ) → Holds a x y → Holds b x y → T (holds a x y && holds b x y)
      make x y e f = both (holds a x y) (holds b x y) (holds_of a x y e) (holds_of b x y f)

      one : (x y : ℕ) → T (holds a x y && holds b x y) → Holds a x y
      one x y t = of_holds a x y (left (holds a x y) (holds b x y) t)

      two : (x y : ℕ) → T (holds a x y && holds b x y) → Holds b x y
      two x y t = of_holds b x y (right (holds a x y) (holds b x y) t)

  pub meet_map : IsMap n (meet n a b)
  unfolding meet
  meet_map = map_of_map n (λ x y. holds a x y && holds b x y) both_equiv

  pub meet_holds : (x y : ℕ) → x < n → y < n → Holds a x y → Holds b x y → Holds (meet n a b) x y
  unfolding meet
  meet_holds x y l k e f =
      map_of_holds n (λ x y. holds a x y && holds b x y) both_equiv x y l k (both (holds a x y) (holds b x y) (holds_of a x y e) (holds_of b x y f))

  pub of_meet : (x y : ℕ) → x < n → y < n → Holds (meet n a b) x y → Holds a x y × Holds b x y
  unfolding meet
  of_meet x y l k e =
      let t : T (holds a x y && holds b x y) = of_map_of n (λ x y. holds a x y && holds b x y) both_equiv x y l k e in
      (of_holds a x y (left (holds a x y) (holds b x y) t), of_holds b x y (right (holds a x y) (holds b x y) t))

  pub meet_byte : (x y : ℕ) → x < n → y < n → Holds a x y → Holds b x y → ((z : ℕ) → z < y → Holds a x z → Holds b x z → ⊥) → byte (meet n a b) x ≡ y
  unfolding meet
  meet_byte x y l k e f g =
      map_of_byte n (λ x y. holds a x y && holds b x y) x y l k (both (holds a x y) (holds b x y) (holds_of a x y e) (holds_of b x y f))
      (λ z i t. g z i (of_holds a x z (left (holds a x z) (holds b x z) t)) (of_holds b x z (right (holds a x z) (holds b x z) t)))

  pub meet_greatest : (c : Map) → Inside n c a → Inside n c b → Inside n c (meet n a b)
  meet_greatest c h k x y l j e = meet_holds x y l j (h x y l j e) (k x y l j e)

-- slices that begin with the same n bytes have the same meets
pub meet_alike : (n : ℕ) (a a' b b' : Map) → ((x : ℕ) → x < n → byte a x ≡ byte a' x) → ((x : ℕ) → x < n → byte b x ≡ byte b' x) → meet n a b ≡ meet n a' b'
meet_alike n a a' b b' g h =
    map_ext n (meet n a b) (meet n a' b') (meet_map n a b) (meet_map n a' b')
    (λ x y l k e. let r = of_meet n a b x y l k e in meet_holds n a' b' x y l k (sym (g x l) ∙ r.0 ∙ g y k) (sym (h x l) ∙ r.1 ∙ h y k))
    (λ x y l k e. let r = of_meet n a' b' x y l k e in meet_holds n a b x y l k (g x l ∙ r.0 ∙ sym (g y k)) (h x l ∙ r.1 ∙ sym (h y k)))

pub meet_all_map : (n : ℕ) (ms : List Map) → IsMap n (meet_all n ms)
unfolding meet_all
meet_all_map n [] = whole_map n
meet_all_map n (m ∷ ms) = meet_map n m (meet_all n ms)

-- every member holds x and y
abbrev pub AllHold : List Map → ℕ → ℕ → Type 0
AllHold ms x y = (m : Map) → Member m ms → Holds m x y

pub meet_all_holds : (n : ℕ) (ms : List Map) (x y : ℕ) → x < n → y < n → AllHold ms x y → Holds (meet_all n ms) x y
unfolding meet_all
meet_all_holds n [] x y l k h = whole_holds n x y l k
meet_all_holds n (m ∷ ms) x y l k h =
    meet_holds n m (meet_all n ms) x y l k (h m (here refl)) (meet_all_holds n ms x y l k (λ c i. h c (there i)))

pub of_meet_all : (n : ℕ) (ms : List Map) (x y : ℕ) → x < n → y < n → Holds (meet_all n ms) x y → AllHold ms x y
unfolding meet_all
of_meet_all n [] x y l k e c i = absurd (not-nil i)
of_meet_all n (m ∷ ms) x y l k e c i =
    elim (cases_cons i) [
      | inl p ↦ subst (λ (z : Map). Holds z x y) (sym p) (of_meet n m (meet_all n ms) x y l k e).0
      | inr j ↦ of_meet_all n ms x y l k (of_meet n m (meet_all n ms) x y l k e).1 c j
    ]

-- the list meets in the identity
abbrev pub Meets : ℕ → List Map → Type 0
Meets n ms = (x y : ℕ) → x < n → y < n → AllHold ms x y → x ≡ y

pub meets_of : (n : ℕ) (ms : List Map) → Meets n ms → meet_all n ms ≡ identity n
meets_of n ms h = discrete_identity n (meet_all n ms) (meet_all_map n ms) (λ x y l k e. h x y l k (of_meet_all n ms x y l k e))

pub of_meets : (n : ℕ) (ms : List Map) → meet_all n ms ≡ identity n → Meets n ms
of_meets n ms e x y l k h = identity_discrete n x y l k (subst (λ (z : Map). Holds z x y) e (meet_all_holds n ms x y l k h))

-- a list that meets in the identity still does with more members
pub meets_more : (n : ℕ) (ms more : List Map) → ((m : Map) → Member m ms → Member m more) → Meets n ms → Meets n more
meets_more n ms more f h x y l k g = h x y l k (λ m i. g m (f m i))
