-- The order of maps by the first pair in which they differ: `not_later` is total, transitive and antisymmetric.
use Prim.Native.Nat.{ℕ, ◌<◌}
use mathlib.Core.Bool.{Bool, true, false, not, ◌&&◌, ◌||◌}
use mathlib.Core.List.Memᴰ.{head as here}
use mathlib.Core.List.{List, [], ◌∷◌, ◌++◌, Memᴰ as Member}
use mathlib.Core.List.Memᴰ.{cases_cons}
use mathlib.Core.List.Memᴰ.{not-nil}
use mathlib.Core.List.Memᴰ.{tail as there}
use mathlib.Core.List.Memᴰ.{append_cases}
use mathlib.Core.List.Memᴰ.{append_right}
use mathlib.Core.List.Memᴰ.{eq_of_singleton}
use mathlib.Core.Logic.{◌⊎◌, inl, inr}
use mathlib.Core.Path.{◌≡◌, refl, sym, subst, ◌∙◌}
use native.Mathlib.Omega.{arith}
use lib.Dec.{T}
use lib.Seq.{append_snoc}
use Rattle.equivalence.specs.Equivalence.{Map, holds}
use Rattle.pairorder.specs.Order.{Pair, pairs, not_later_on, not_later}
use Rattle.equivalence.proofs.Maps.{Holds, holds_of, of_holds, IsMap, Inside, map_ext}
use Rattle.pairorder.proofs.Pairs.{member_pairs, of_pairs, inside_by_pairs, Sorted, sorted_right, Lex, sorted_pairs}

-- what the first pair says of the order: a and b hold it or not, and the rest says r
abbrev step : Bool → Bool → Bool → Bool
step h k r = elim h [ true ↦ not k || r | false ↦ not k && r ]

step_total : (h k r s : Bool) → T r ⊎ T s → T (step h k r) ⊎ T (step k h s)
step_total true true r s d = d
step_total true false r s d = inl tt
step_total false true r s d = inr tt
step_total false false r s d = d

step_trans : (h k j r s t : Bool) → (T r → T s → T t) → T (step h k r) → T (step k j s) → T (step h j t)
step_trans true true true r s t f p q = f p q
step_trans true true false r s t f p q = tt
step_trans true false true r s t f p q = absurd q
step_trans true false false r s t f p q = tt
step_trans false true true r s t f p q = absurd p
step_trans false true false r s t f p q = absurd p
step_trans false false true r s t f p q = absurd q
step_trans false false false r s t f p q = f p q

step_anti : (h k r s : Bool) → T (step h k r) → T (step k h s) → (h ≡ k) × (T r × T s)
step_anti true true r s p q = (refl, (p, q))
step_anti true false r s p q = absurd q
step_anti false true r s p q = absurd p
step_anti false false r s p q = (refl, (p, q))

-- the smaller is the later
step_larger : (h k r : Bool) → (T k → T h) → T r → T (step h k r)
step_larger true true r f t = t
step_larger true false r f t = tt
step_larger false true r f t = absurd (f tt)
step_larger false false r f t = t

-- a holds the pair if b does, and the rest follows where both agree
step_of : (h k r : Bool) → (T k → T h) → ((T h → T k) → T r) → T (step h k r)
step_of true true r f g = g (λ t. tt)
step_of true false r f g = tt
step_of false true r f g = absurd (f tt)
step_of false false r f g = g (λ t. t)

on_total : (ps : List Pair) (a b : Map) → T (not_later_on ps a b) ⊎ T (not_later_on ps b a)
unfolding not_later_on
on_total [] a b = inl tt
on_total (p ∷ ps) a b = step_total (holds a p.0 p.1) (holds b p.0 p.1) (not_later_on ps a b) (not_later_on ps b a) (on_total ps a b)

on_trans : (ps : List Pair) (a b c : Map) → T (not_later_on ps a b) → T (not_later_on ps b c) → T (not_later_on ps a c)
unfolding not_later_on
on_trans [] a b c p q = tt
on_trans (p ∷ ps) a b c t s =
    step_trans (holds a p.0 p.1) (holds b p.0 p.1) (holds c p.0 p.1) (not_later_on ps a b) (not_later_on ps b c) (not_later_on ps a c) (on_trans ps a b c) t s

on_anti : (ps : List Pair) (a b : Map) → T (not_later_on ps a b) → T (not_later_on ps b a) → (p : Pair) → Member p ps → holds a p.0 p.1 ≡ holds b p.0 p.1
unfolding not_later_on
on_anti [] a b t s p i = absurd (not-nil i)
on_anti (q ∷ ps) a b t s p i =
    let r = step_anti (holds a q.0 q.1) (holds b q.0 q.1) (not_later_on ps a b) (not_later_on ps b a) t s in
    elim (cases_cons i) [ inl e ↦ rw e r.0 | inr j ↦ on_anti ps a b r.1.0 r.1.1 p j ]

on_larger : (ps : List Pair) (a b : Map) → ((p : Pair) → Member p ps → T (holds b p.0 p.1) → T (holds a p.0 p.1)) → T (not_later_on ps a b)
unfolding not_later_on
on_larger [] a b f = tt
on_larger (p ∷ ps) a b f =
    step_larger (holds a p.0 p.1) (holds b p.0 p.1) (not_later_on ps a b) (f p (here refl)) (on_larger ps a b (λ q i. f q (there i)))

pub not_later_total : (n : ℕ) (a b : Map) → T (not_later n a b) ⊎ T (not_later n b a)
unfolding not_later
not_later_total n a b = on_total (pairs n) a b

pub not_later_trans : (n : ℕ) (a b c : Map) → T (not_later n a b) → T (not_later n b c) → T (not_later n a c)
unfolding not_later
not_later_trans n a b c = on_trans (pairs n) a b c

-- maps neither of which is the earlier hold the same pairs
pub not_later_same : (n : ℕ) (a b : Map) → T (not_later n a b) → T (not_later n b a) → (x y : ℕ) → x < y → y < n → holds a x y ≡ holds b x y
unfolding not_later
not_later_same n a b t s x y l k = on_anti (pairs n) a b t s (x, y) (member_pairs n x y l k)

pub not_later_anti : (n : ℕ) (a b : Map) → IsMap n a → IsMap n b → T (not_later n a b) → T (not_later n b a) → a ≡ b
not_later_anti n a b p q t s =
    let same : (x y : ℕ) → x < y → y < n → holds a x y ≡ holds b x y = not_later_same n a b t s in
    map_ext n a b p q (inside_by_pairs n a b (λ x y l k e. of_holds b x y (subst T (same x y l k) (holds_of a x y e))))
    (inside_by_pairs n b a (λ x y l k e. of_holds a x y (subst T (sym (same x y l k)) (holds_of b x y e))))

-- of two maps, one inside the other, the larger is not later
pub larger_not_later : (n : ℕ) (a b : Map) → Inside n b a → T (not_later n a b)
unfolding not_later
larger_not_later n a b h =
    on_larger (pairs n) a b
    (λ p i t. let r = of_pairs n p i in holds_of a p.0 p.1 (h p.0 p.1 (omega (arith, r.0, r.1)) r.1 (of_holds b p.0 p.1 t)))

-- a is not later than b if each pair that b holds is held by a, wherever both agree on the pairs before it
module _ (a b : Map) where
  abbrev pub Agree : List Pair → Type 0
  Agree ps = (q : Pair) → Member q ps → (Holds a q.0 q.1 → Holds b q.0 q.1) × (Holds b q.0 q.1 → Holds a q.0 q.1)

  on_by : (done ps : List Pair) → ((more : List Pair) (p : Pair) (rest : List Pair) → done ++ ps ≡ more ++ (p ∷ rest) → Agree more → Holds b p.0 p.1 → Holds a p.0 p.1)
      → Agree done → T (not_later_on ps a b)
  unfolding not_later_on
  on_by done [] f g = tt
  on_by done (p ∷ ps) f g =
      let up : Holds b p.0 p.1 → Holds a p.0 p.1 = f done p ps refl g in
      step_of (holds a p.0 p.1) (holds b p.0 p.1) (not_later_on ps a b) (λ t. holds_of a p.0 p.1 (up (of_holds b p.0 p.1 t)))
      (λ t. on_by (done ++ (p ∷ [])) ps (λ more q rest e. f more q rest (sym (append_snoc done p ps) ∙ e))
      (λ q i. elim (append_cases done i) [
        | inl j ↦ g q j
        | inr j ↦ subst (λ (z : Pair). (Holds a z.0 z.1 → Holds b z.0 z.1) × (Holds b z.0 z.1 → Holds a z.0 z.1)) (sym (eq_of_singleton j))
            (λ h. of_holds b p.0 p.1 (t (holds_of a p.0 p.1 h)), up)
      ]))

  pub not_later_by : (n : ℕ) → ((done : List Pair) (p : Pair) (rest : List Pair) → pairs n ≡ done ++ (p ∷ rest) → Agree done → Holds b p.0 p.1 → Holds a p.0 p.1) → T (not_later n a b)
  unfolding not_later
  not_later_by n f = on_by [] (pairs n) f (λ q i. absurd (not-nil i))

-- a is the earlier if it holds a pair that b does not, and all that b holds before it
pub not_later_first : (n : ℕ) (a b : Map) (x y : ℕ) → x < y → y < n → Holds a x y → ¬ Holds b x y
    → ((u v : ℕ) → u < v → v < n → Lex (u, v) (x, y) → Holds b u v → Holds a u v) → T (not_later n a b)
not_later_first n a b x y l k h g f =
    not_later_by a b n (λ done p rest e agree held.
    let within : Member p (pairs n) = subst (λ (ps : List Pair). Member p ps) (sym e) (append_right done (here refl)) in
    let q = of_pairs n p within in
    let i : Member (x, y) (done ++ (p ∷ rest)) = subst (λ (ps : List Pair). Member (x, y) ps) e (member_pairs n x y l k) in
    elim (append_cases done i) [
      | inl j ↦ absurd (g ((agree (x, y) j).0 h))
      | inr j ↦ elim (cases_cons j) [
        | inl w ↦ absurd (g (subst (λ (z : Pair). Holds b z.0 z.1) (sym w) held))
        | inr w ↦ f p.0 p.1 q.0 q.1 ((sorted_right Lex done (p ∷ rest) (subst (Sorted Lex) e (sorted_pairs n))).0 (x, y) w) held
      ]
    ])
