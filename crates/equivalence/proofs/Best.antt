-- The member of a list that stands in an order to every member: it is the only one, and where the order is total it exists.
use mathlib.Core.Bool.{Bool}
use mathlib.Core.List.Memᴰ.{cases_cons}
use mathlib.Core.List.Memᴰ.{head as here}
use mathlib.Core.List.Memᴰ.{not-nil}
use mathlib.Core.List.Memᴰ.{tail as there}
use mathlib.Core.List.{List, [], ◌∷◌, Memᴰ as Member}
use mathlib.Core.Logic.{◌⊎◌, inl, inr}
use mathlib.Core.Path.{◌≡◌, refl}
use lib.Dec.{T}
use Rattle.equivalence.specs.Equivalence.{Map, best}
use Rattle.equivalence.specs.Lists.{every, first}
use Rattle.equivalence.proofs.Lists.{every_of, of_every, first_found}

-- m is the best of ms
pub record Best (order : Map → Map → Bool) (ms : List Map) (m : Map) : Type 0 where
  pub member : Member m ms
  pub before : (c : Map) → Member c ms → T (order m c)

module _ (order : Map → Map → Bool) where
  -- if there is a best, then `best` is one
  pub best_law : (ms : List Map) (m : Map) → Best order ms m → Best order ms (best order ms)
  unfolding best
  best_law ms m b =
      let r = first_found (λ m. every (order m) ms) [] ms m b.member (every_of (order m) ms b.before) in
      record { member = r.0; before = of_every (order (first (λ m. every (order m) ms) [] ms)) ms r.1 }

  -- where the order is antisymmetric, it is the one
  pub best_is : (ms : List Map) → ((a b : Map) → Member a ms → Member b ms → T (order a b) → T (order b a) → a ≡ b) → (m : Map) → Best order ms m → best order ms ≡ m
  best_is ms anti m b =
      let r = best_law ms m b in
      anti (best order ms) m r.member b.member (r.before m b.member) (b.before (best order ms) r.member)

  -- where it is total and transitive, a list that is not empty has a best
  module _ (total : (a b : Map) → T (order a b) ⊎ T (order b a)) (trans : (a b c : Map) → T (order a b) → T (order b c) → T (order a c)) where
    pub best_exists : (m : Map) (ms : List Map) → (c : Map) × Best order (m ∷ ms) c
    best_exists m [] = (m, record { member = here refl; before = λ c i. elim (cases_cons i) [ inl e ↦ rw e (self m) | inr j ↦ absurd (not-nil j) ] })
      where
        self : (m : Map) → T (order m m)
        self m = elim (total m m) [ inl t ↦ t | inr t ↦ t ]
    best_exists m (k ∷ ms) =
        let r = best_exists k ms in
        elim (total m r.0) [
          | inl t ↦ (
            m,
            record {
              member = here refl;
              before = λ c i. elim (cases_cons i) [ inl e ↦ rw e (elim (total m m) [ inl s ↦ s | inr s ↦ s ]) | inr j ↦ trans m r.0 c t (r.1.before c j) ];
            },
          )
          | inr t ↦ (
            r.0,
            record {
              member = there r.1.member;
              before = λ c i. elim (cases_cons i) [ inl e ↦ rw e t | inr j ↦ r.1.before c j ];
            },
          )
        ]

    pub best_of : (ms : List Map) (m : Map) → Member m ms → Best order ms (best order ms)
    best_of [] m i = absurd (not-nil i)
    best_of (k ∷ ms) m i = let r = best_exists k ms in best_law (k ∷ ms) r.0 r.1
