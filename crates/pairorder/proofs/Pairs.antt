-- The pairs in their order, and the first that a map holds.
use Prim.Native.Nat.{ℕ, zero, suc, ◌<◌}
use mathlib.Core.Bool.{Bool, not}
use mathlib.Core.List.Memᴰ.{head as here}
use mathlib.Core.List.{List, [], ◌∷◌, ◌++◌, map, Memᴰ as Member}
use mathlib.Core.List.Memᴰ.{cases_cons}
use mathlib.Core.List.Memᴰ.{not-nil}
use mathlib.Core.List.Memᴰ.{tail as there}
use mathlib.Core.List.Memᴰ.{eq_of_singleton}
use mathlib.Core.List.Memᴰ.{map as member-map}
use mathlib.Core.List.Memᴰ.{of_map}
use mathlib.Core.List.Memᴰ.{append_cases}
use mathlib.Core.Logic.{◌⊎◌, inl, inr}
use mathlib.Core.Path.{◌≡◌, refl, sym, ap, subst}
use native.Mathlib.Decide.{dec_lt}
use native.Mathlib.Omega.{arith}
use lib.Dec.{T, ltb, T_not, not_T, ltb→lt, lt→ltb}
use Rattle.equivalence.specs.Equivalence.{Map, byte, holds, identity}
use Rattle.equivalence.specs.Lists.{up_to, keep, first, concat}
use Rattle.pairorder.specs.Order.{Pair, pairs, first_held}
use Rattle.equivalence.proofs.Lists.{of_every, keep_yes, keep_no, keep_member, of_keep, first_yes, first_no, first_found, member_concat, of_concat, member_up_to, of_up_to, every_or}
use Rattle.equivalence.proofs.Maps.{Holds, holds_of, of_holds, Inside, Discrete, identity_discrete}
use Rattle.equivalence.proofs.Tests.{T?}

pub member_pairs : (n x y : ℕ) → x < y → y < n → Member (x, y) (pairs n)
unfolding pairs
member_pairs n x y l k =
    member_concat (map (λ x. map (λ y. (x, y)) (keep (ltb x) (up_to n))) (up_to n)) (map (λ y. (x, y)) (keep (ltb x) (up_to n))) (x, y)
    (member-map (λ x. map (λ y. (x, y)) (keep (ltb x) (up_to n))) (member_up_to n x (omega arith)))
    (member-map (λ y. (x, y)) (keep_member (ltb x) (up_to n) y (member_up_to n y k) (lt→ltb x y l)))

pub of_pairs : (n : ℕ) (p : Pair) → Member p (pairs n) → (p.0 < p.1) × (p.1 < n)
unfolding pairs
of_pairs n p i =
    let s = of_concat (map (λ x. map (λ y. (x, y)) (keep (ltb x) (up_to n))) (up_to n)) p i in
    let u = of_map (λ x. map (λ y. (x, y)) (keep (ltb x) (up_to n))) (up_to n) s.1 in
    let v = of_map (λ y. (u.0, y)) (keep (ltb u.0) (up_to n)) (subst (λ (l : List Pair). Member p l) (sym u.2) s.2) in
    let w = of_keep (ltb u.0) (up_to n) v.0 v.1 in
    let h : (u.0 < v.0) × (v.0 < n) = (ltb→lt u.0 v.0 w.1, of_up_to n v.0 w.0) in
    subst (λ (p : Pair). (p.0 < p.1) × (p.1 < n)) v.2 h

-- a map lies inside another where that holds each of its pairs (x, y) with x < y
pub inside_by_pairs : (n : ℕ) (a b : Map) → ((x y : ℕ) → x < y → y < n → Holds a x y → Holds b x y) → Inside n a b
inside_by_pairs n a b h x y l k e =
    elim (dec_lt x y) [
      | yes i ↦ h x y i k e
      | no g ↦ elim (dec_lt y x) [ yes i ↦ sym (h y x i l (sym e)) | no f ↦ let s : x ≡ y = omega arith in ap (byte b) s ]
    ]

module _ {A : Type 0} (R : A → A → Type 0) where
  abbrev pub Sorted : List A → Type 0
  Sorted [] = Unit {0}
  Sorted (a ∷ l) = ((b : A) → Member b l → R a b) × Sorted l

  pub first_sorted : (p : A → Bool) (d : A) (l : List A) → Sorted l → (a : A) → Member a l → T (p a) → (first p d l ≡ a) ⊎ R (first p d l) a
  first_sorted p d [] s a i t = absurd (not-nil i)
  first_sorted p d (b ∷ l) s a i t =
      elim (T? (p b)) [
        | yes u ↦ rw (first_yes p d b l u) (elim (cases_cons i) [ inl e ↦ inl (sym e) | inr j ↦ inr (s.0 a j) ])
        | no u ↦ rw (first_no p d b l u)
            (elim (cases_cons i) [
              | inl e ↦ absurd (u (subst (λ (x : A). T (p x)) e t))
              | inr j ↦ first_sorted p d l s.1 a j t
            ])
      ]

  pub sorted_append : (l r : List A) → Sorted l → Sorted r → ((a b : A) → Member a l → Member b r → R a b) → Sorted (l ++ r)
  sorted_append [] r s t f = t
  sorted_append (a ∷ l) r s t f =
      (λ b i. elim (append_cases l i) [ inl j ↦ s.0 b j | inr j ↦ f a b (here refl) j ], sorted_append l r s.1 t (λ x y i j. f x y (there i) j))

  pub sorted_right : (l r : List A) → Sorted (l ++ r) → Sorted r
  sorted_right [] r s = s
  sorted_right (a ∷ l) r s = sorted_right l r s.1

  pub sorted_keep : (p : A → Bool) (l : List A) → Sorted l → Sorted (keep p l)
  unfolding keep
  sorted_keep p [] s = tt
  sorted_keep p (a ∷ l) s =
      elim (T? (p a)) [
        | yes t ↦ rw (keep_yes p a l t) (λ b i. s.0 b (of_keep p l b i).0, sorted_keep p l s.1)
        | no t ↦ rw (keep_no p a l t) (sorted_keep p l s.1)
      ]

module _ {A B : Type 0} (R : A → A → Type 0) (S : B → B → Type 0) where
  pub sorted_map : (g : A → B) → ((a b : A) → R a b → S (g a) (g b)) → (l : List A) → Sorted R l → Sorted S (map g l)
  sorted_map g f [] s = tt
  sorted_map g f (a ∷ l) s =
      (λ b i. let r = of_map g l i in subst (λ (z : B). S (g a) z) r.2 (f a r.0 (s.0 r.0 r.1)), sorted_map g f l s.1)

  pub sorted_concat : (g : A → List B) → ((x : A) → Sorted S (g x)) → ((x y : A) → R x y → (a b : B) → Member a (g x) → Member b (g y) → S a b)
      → (l : List A) → Sorted R l → Sorted S (concat (map g l))
  unfolding concat
  sorted_concat g h f [] s = tt
  sorted_concat g h f (x ∷ l) s =
      sorted_append S (g x) (concat (map g l)) (h x) (sorted_concat g h f l s.1)
      (λ a b i j. let r = of_concat (map g l) b j in
      let u = of_map g l r.1 in
      f x u.0 (s.0 u.0 u.1) a b i (subst (λ (z : List B). Member b z) (sym u.2) r.2))

pub sorted_up_to : (n : ℕ) → Sorted ◌<◌ (up_to n)
unfolding up_to
sorted_up_to zero = tt
sorted_up_to (suc n) =
    sorted_append ◌<◌ (up_to n) (n ∷ []) (sorted_up_to n) (λ b i. absurd (not-nil i), tt) (λ a b i j. rw (eq_of_singleton j) (of_up_to n a i))

-- p comes before q
abbrev pub Lex : Pair → Pair → Type 0
Lex p q = (p.0 < q.0) ⊎ ((p.0 ≡ q.0) × (p.1 < q.1))

pub sorted_pairs : (n : ℕ) → Sorted Lex (pairs n)
unfolding pairs
sorted_pairs n =
    sorted_concat ◌<◌ Lex (λ x. map (λ y. (x, y)) (keep (ltb x) (up_to n)))
    (λ x. sorted_map ◌<◌ Lex (λ y. (x, y)) (λ u v l. inr (refl, l)) (keep (ltb x) (up_to n)) (sorted_keep ◌<◌ (ltb x) (up_to n) (sorted_up_to n)))
    (λ x y l p q i j. let r = of_map (λ y. (x, y)) (keep (ltb x) (up_to n)) i in
    let s = of_map (λ v. (y, v)) (keep (ltb y) (up_to n)) j in
    inl (subst (λ (z : Pair). z.0 < q.0) r.2 (subst (λ (z : Pair). x < z.0) s.2 l)))
    (up_to n) (sorted_up_to n)

pub first_held_law : (n : ℕ) (m : Map) → ¬ Discrete n m → Member (first_held n m) (pairs n) × Holds m (first_held n m).0 (first_held n m).1
unfolding first_held
first_held_law n m f =
    elim (every_or (λ p. not (holds m p.0 p.1)) (pairs n)) [
      | inl t ↦ absurd (f (λ x y l k e. identity_discrete n x y l k
          (inside_by_pairs n m (identity n) (λ u v i j g. absurd (T_not (holds m u v) (of_every _ (pairs n) t (u, v) (member_pairs n u v i j)) (holds_of m u v g))) x y l k e)))
      | inr r ↦ elim (T? (holds m r.0.0 r.0.1)) [
        | yes s ↦ let q = first_found (λ p. holds m p.0 p.1) (0, 0) (pairs n) r.0 r.1 s in (q.0, of_holds m _ _ q.1)
        | no s ↦ absurd (r.2 (not_T (holds m r.0.0 r.0.1) s))
      ]
    ]

-- what a search through the pairs, row by row, shows
pub first_held_is : (n : ℕ) (m : Map) (x y : ℕ) → x < y → y < n → Holds m x y → ((u v : ℕ) → u < v → v < n → Lex (u, v) (x, y) → ¬ Holds m u v) → first_held n m ≡ (x, y)
unfolding first_held
first_held_is n m x y l k e f =
    let test : Pair → Bool = λ p. holds m p.0 p.1 in
    let i : Member (x, y) (pairs n) = member_pairs n x y l k in
    let t : T (holds m x y) = holds_of m x y e in
    elim (first_sorted Lex test (0, 0) (pairs n) (sorted_pairs n) (x, y) i t) [
      | inl s ↦ s
      | inr s ↦ let r = first_found test (0, 0) (pairs n) (x, y) i t in
          let q = of_pairs n (first test (0, 0) (pairs n)) r.0 in
          absurd (f (first test (0, 0) (pairs n)).0 (first test (0, 0) (pairs n)).1 q.0 q.1 s (of_holds m _ _ r.1))
    ]

pub first_held_first : (n : ℕ) (m : Map) (u v : ℕ) → u < v → v < n → Holds m u v → (first_held n m ≡ (u, v)) ⊎ Lex (first_held n m) (u, v)
unfolding first_held
first_held_first n m u v l k e =
    first_sorted Lex (λ p. holds m p.0 p.1) (0, 0) (pairs n) (sorted_pairs n) (u, v) (member_pairs n u v l k) (holds_of m u v e)

pub pairs_one : pairs 1 ≡ []
unfolding pairs up_to keep concat
pairs_one = refl
