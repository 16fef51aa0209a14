-- Laws of the searches over lists (`every`, `any`, `keep`, `first`, `concat`, `up_to`): what a member says of the list, and back.
use Prim.Native.Nat.{ℕ, zero, suc, ◌≤◌, ◌<◌}
use mathlib.Core.Bool.{Bool}
use mathlib.Core.List.Memᴰ.{head as here}
use mathlib.Core.List.{List, [], ◌∷◌, ◌++◌, map, Memᴰ as Member}
use mathlib.Core.List.Memᴰ.{cases_cons}
use mathlib.Core.List.Memᴰ.{eq_of_singleton}
use mathlib.Core.List.Memᴰ.{not-nil}
use mathlib.Core.List.Memᴰ.{tail as there}
use mathlib.Core.List.Memᴰ.{append_cases}
use mathlib.Core.List.Memᴰ.{append_left}
use mathlib.Core.List.Memᴰ.{append_right}
use mathlib.Core.Logic.{◌⊎◌, inl, inr, ◌≢◌}
use mathlib.Core.Path.{◌≡◌, refl, sym, ap, subst, ◌∙◌}
use native.Mathlib.Decide.{dec_lt}
use native.Mathlib.Omega.{arith}
use lib.Dec.{T}
use lib.ListN.{length, get_or, set, length-append, get_or-append}
use lib.Seq.{get_or-append_seam}
use Rattle.equivalence.specs.Equivalence.{Map}
use Rattle.equivalence.specs.Lists.{up_to, every, any, keep, first, concat, without}
use Rattle.equivalence.proofs.Tests.{T?, both, left, right, or_left, or_right, or_cases, pick_yes, pick_no}

module _ {ℓ} {A : Type ℓ} where
  pub every_of : (p : A → Bool) (l : List A) → ((a : A) → Member a l → T (p a)) → T (every p l)
  unfolding every
  every_of p [] h = tt
  every_of p (a ∷ l) h = both (p a) (every p l) (h a (here refl)) (every_of p l (λ b m. h b (there m)))

  pub of_every : (p : A → Bool) (l : List A) → T (every p l) → (a : A) → Member a l → T (p a)
  unfolding every
  of_every p [] t a m = absurd (not-nil m)
  of_every p (b ∷ l) t a (here e) = subst (λ (x : A). T (p x)) (sym e) (left (p b) (every p l) t)
  of_every p (b ∷ l) t a (there m) = of_every p l (right (p b) (every p l) t) a m

  pub any_of : (p : A → Bool) (l : List A) (a : A) → Member a l → T (p a) → T (any p l)
  unfolding any
  any_of p [] a m t = absurd (not-nil m)
  any_of p (b ∷ l) a m t =
      elim (cases_cons m) [
        | inl e ↦ or_left (p b) (any p l) (subst (λ (x : A). T (p x)) e t)
        | inr k ↦ or_right (p b) (any p l) (any_of p l a k t)
      ]

  pub of_any : (p : A → Bool) (l : List A) → T (any p l) → (a : A) × Member a l × T (p a)
  unfolding any
  of_any p [] t = absurd t
  of_any p (b ∷ l) t =
      elim (or_cases (p b) (any p l) t) [
        | inl s ↦ (b, here refl, s)
        | inr s ↦ let r = of_any p l s in (r.0, there r.1, r.2)
      ]

  pub keep_yes : (p : A → Bool) (a : A) (l : List A) → T (p a) → keep p (a ∷ l) ≡ a ∷ keep p l
  unfolding keep
  keep_yes p a l t = pick_yes (p a) (a ∷ keep p l) (keep p l) t

  pub keep_no : (p : A → Bool) (a : A) (l : List A) → ¬ T (p a) → keep p (a ∷ l) ≡ keep p l
  unfolding keep
  keep_no p a l t = pick_no (p a) (a ∷ keep p l) (keep p l) t

  pub keep_member : (p : A → Bool) (l : List A) (a : A) → Member a l → T (p a) → Member a (keep p l)
  keep_member p [] a x'' t = elim x'' [ ]
  keep_member p (b ∷ l) a (here e) t = rw (keep_yes p b l (subst (λ (x : A). T (p x)) e t)) (here e)
  keep_member p (b ∷ l) a (there m) t =
      elim (T? (p b)) [
        | yes s ↦ rw (keep_yes p b l s) (there (keep_member p l a m t))
        | no s ↦ rw (keep_no p b l s) (keep_member p l a m t)
      ]

  pub of_keep : (p : A → Bool) (l : List A) (a : A) → Member a (keep p l) → Member a l × T (p a)
  unfolding keep
  of_keep p [] a m = absurd (not-nil m)
  of_keep p (b ∷ l) a m =
      elim (T? (p b)) [
        | yes s ↦ elim (cases_cons (rw (keep_yes p b l s) at m)) [
          | inl e ↦ (here e, subst (λ (x : A). T (p x)) (sym e) s)
          | inr k ↦ let r = of_keep p l a k in (there r.0, r.1)
        ]
        | no s ↦ let r = of_keep p l a (rw (keep_no p b l s) at m) in (there r.0, r.1)
      ]

  pub first_yes : (p : A → Bool) (d a : A) (l : List A) → T (p a) → first p d (a ∷ l) ≡ a
  unfolding first
  first_yes p d a l t = pick_yes (p a) a (first p d l) t

  pub first_no : (p : A → Bool) (d a : A) (l : List A) → ¬ T (p a) → first p d (a ∷ l) ≡ first p d l
  unfolding first
  first_no p d a l t = pick_no (p a) a (first p d l) t

  -- if a member passes, then the first is a member that passes
  pub first_found : (p : A → Bool) (d : A) (l : List A) (a : A) → Member a l → T (p a) → Member (first p d l) l × T (p (first p d l))
  first_found p d (b ∷ l) a m t =
      elim (T? (p b)) [
        | yes s ↦ rw (first_yes p d b l s) (here refl, s)
        | no s ↦ rw (first_no p d b l s)
            (elim (cases_cons m) [
              | inl e ↦ absurd (s (subst (λ (x : A). T (p x)) e t))
              | inr k ↦ let r = first_found p d l a k t in (there r.0, r.1)
            ])
      ]
  first_found p d [] a m t = absurd (not-nil m)

  -- if none passes, then it is the default
  pub first_none : (p : A → Bool) (d : A) (l : List A) → ((a : A) → Member a l → ¬ T (p a)) → first p d l ≡ d
  unfolding first
  first_none p d [] h = refl
  first_none p d (a ∷ l) h = first_no p d a l (h a (here refl)) ∙ first_none p d l (λ b m. h b (there m))

  pub first_append : (p : A → Bool) (d : A) (l r : List A) → first p d (l ++ r) ≡ first p (first p d r) l
  unfolding first
  first_append p d [] r = refl
  first_append p d (a ∷ l) r =
      elim (T? (p a)) [
        | yes s ↦ first_yes p d a (l ++ r) s ∙ sym (first_yes p (first p d r) a l s)
        | no s ↦ first_no p d a (l ++ r) s ∙ first_append p d l r ∙ sym (first_no p (first p d r) a l s)
      ]

  pub member_concat : (ls : List (List A)) (l : List A) (a : A) → Member l ls → Member a l → Member a (concat ls)
  unfolding concat
  member_concat [] l a x'' m = elim x'' [ ]
  member_concat (k ∷ ls) l a (here e) m = append_left (concat ls) (subst (λ (x : List A). Member a x) e m)
  member_concat (k ∷ ls) l a (there h) m = append_right k (member_concat ls l a h m)

  pub of_concat : (ls : List (List A)) (a : A) → Member a (concat ls) → (l : List A) × Member l ls × Member a l
  unfolding concat
  of_concat [] a m = absurd (not-nil m)
  of_concat (k ∷ ls) a m =
      elim (append_cases k m) [
        | inl h ↦ (k, here refl, h)
        | inr h ↦ let r = of_concat ls a h in (r.0, there r.1, r.2)
      ]

  pub keep_all : (p : A → Bool) (l : List A) → length (keep p l) ≤ length l
  unfolding keep
  keep_all p [] = omega arith
  keep_all p (a ∷ l) =
      let h = keep_all p l in
      elim (T? (p a)) [ yes s ↦ rw (keep_yes p a l s) (omega arith) | no s ↦ rw (keep_no p a l s) (omega arith) ]

  pub keep_mono : (p q : A → Bool) (l : List A) → ((a : A) → Member a l → T (p a) → T (q a)) → length (keep p l) ≤ length (keep q l)
  unfolding keep
  keep_mono p q [] f = omega arith
  keep_mono p q (a ∷ l) f =
      let h = keep_mono p q l (λ b m. f b (there m)) in
      elim (T? (p a)) [
        | yes s ↦ rw (keep_yes p a l s, keep_yes q a l (f a (here refl) s)) (omega arith)
        | no s ↦ rw (keep_no p a l s) (elim (T? (q a)) [ yes t ↦ rw (keep_yes q a l t) (omega arith) | no t ↦ rw (keep_no q a l t) h ])
      ]

  -- more pass q than p: each that passes p, and a as well
  pub keep_more : (p q : A → Bool) (l : List A) → ((a : A) → Member a l → T (p a) → T (q a)) → (a : A) → Member a l → ¬ T (p a) → T (q a)
      → length (keep p l) < length (keep q l)
  keep_more p q [] f a m np tq = absurd (not-nil m)
  keep_more p q (b ∷ l) f a m np tq =
      elim (cases_cons m) [
        | inl e ↦ let h = keep_mono p q l (λ c k. f c (there k)) in
            rw (keep_no p b l (subst (λ (x : A). ¬ T (p x)) e np), keep_yes q b l (subst (λ (x : A). T (q x)) e tq)) (omega arith)
        | inr k ↦ let h = keep_more p q l (λ c j. f c (there j)) a k np tq in
            elim (T? (p b)) [
              | yes s ↦ rw (keep_yes p b l s, keep_yes q b l (f b (here refl) s)) (omega arith)
              | no s ↦ rw (keep_no p b l s) (elim (T? (q b)) [ yes t ↦ rw (keep_yes q b l t) (omega arith) | no t ↦ rw (keep_no q b l t) h ])
            ]
      ]

  pub member_at : (l : List A) (i : ℕ) (d : A) → i < length l → Member (get_or l i d) l
  member_at [] i d h = absurd (omega arith)
  member_at (a ∷ l) zero d h = here refl
  member_at (a ∷ l) (suc i) d h = there (member_at l i d (omega arith))

  pub member_index : (l : List A) (a d : A) → Member a l → (i : ℕ) × (i < length l) × (get_or l i d ≡ a)
  member_index [] a d m = absurd (not-nil m)
  member_index (b ∷ l) a d m =
      elim (cases_cons m) [
        | inl e ↦ (0, omega arith, sym e)
        | inr k ↦ let r = member_index l a d k in (suc r.0, omega (arith, r.1), r.2)
      ]

pub up_to_length : (n : ℕ) → length (up_to n) ≡ n
unfolding up_to
up_to_length zero = refl
up_to_length (suc n) = length-append (up_to n) (n ∷ []) ∙ omega (arith, up_to_length n)

pub member_up_to : (n x : ℕ) → x < n → Member x (up_to n)
unfolding up_to
member_up_to zero x h = absurd (omega arith)
member_up_to (suc n) x h =
    elim (dec_lt x n) [ yes l ↦ append_left (n ∷ []) (member_up_to n x l) | no g ↦ append_right (up_to n) (here (omega arith)) ]

pub of_up_to : (n x : ℕ) → Member x (up_to n) → x < n
unfolding up_to
of_up_to zero x m = absurd (not-nil m)
of_up_to (suc n) x m =
    elim (append_cases (up_to n) m) [ inl k ↦ omega (arith, of_up_to n x k) | inr k ↦ omega (arith, eq_of_singleton k) ]

pub up_to_at : (n x : ℕ) → x < n → get_or (up_to n) x 0 ≡ x
unfolding up_to
up_to_at zero x h = absurd (omega arith)
up_to_at (suc n) x h =
    elim (dec_lt x n) [
      | yes l ↦ get_or-append (up_to n) (n ∷ []) 0 x (omega (arith, up_to_length n)) ∙ up_to_at n x l
      | no g ↦ let e : x ≡ length (up_to n) = omega (arith, up_to_length n) in
          rw e (get_or-append_seam (up_to n) n [] 0 ∙ sym (up_to_length n))
    ]

pub below_of : (n : ℕ) (p : ℕ → Bool) → ((x : ℕ) → x < n → T (p x)) → T (every p (up_to n))
below_of n p h = every_of p (up_to n) (λ x m. h x (of_up_to n x m))

pub of_below : (n : ℕ) (p : ℕ → Bool) → T (every p (up_to n)) → (x : ℕ) → x < n → T (p x)
of_below n p t x h = of_every p (up_to n) t x (member_up_to n x h)

pub map_at {ℓ κ} : {A : Type ℓ} {B : Type κ} (f : A → B) (l : List A) (i : ℕ) (d : A) (e : B) → i < length l → get_or (map f l) i e ≡ f (get_or l i d)
map_at f [] i d e h = absurd (omega arith)
map_at f (a ∷ l) zero d e h = refl
map_at f (a ∷ l) (suc i) d e h = map_at f l i d e (omega arith)

-- a table over 0 to n - 1
pub table_at {ℓ} : {A : Type ℓ} (f : ℕ → A) (n x : ℕ) (d : A) → x < n → get_or (map f (up_to n)) x d ≡ f x
table_at f n x d h = map_at f (up_to n) x 0 d (omega (arith, up_to_length n)) ∙ ap f (up_to_at n x h)

-- the first of 0 to n - 1 that passes is the least that passes
pub first_least : (p : ℕ → Bool) (d n x : ℕ) → x < n → T (p x) → first p d (up_to n) ≤ x
unfolding up_to
first_least p d zero x h t = absurd (omega arith)
first_least p d (suc n) x h t =
    elim (dec_lt x n) [
      | yes l ↦ rw (first_append p d (up_to n) (n ∷ [])) (first_least p (first p d (n ∷ [])) n x l t)
      | no g ↦ omega (arith, of_up_to (suc n) (first p d (up_to (suc n))) (first_found p d (up_to (suc n)) x (member_up_to (suc n) x h) t).0)
    ]

-- and it is x, if x passes and none below does: what a loop that looks for it shows
pub first_is : (p : ℕ → Bool) (d n x : ℕ) → x < n → T (p x) → ((z : ℕ) → z < x → ¬ T (p z)) → first p d (up_to n) ≡ x
first_is p d n x l t g =
    let r : T (p (first p d (up_to n))) = (first_found p d (up_to n) x (member_up_to n x l) t).1 in
    elim (dec_lt (first p d (up_to n)) x) [ yes k ↦ absurd (g (first p d (up_to n)) k r) | no k ↦ omega (arith, first_least p d n x l t) ]

pub every_or {ℓ} : {A : Type ℓ} (p : A → Bool) (l : List A) → T (every p l) ⊎ ((a : A) × Member a l × ¬ T (p a))
unfolding every
every_or p [] = inl tt
every_or p (a ∷ l) =
    elim (T? (p a)) [
      | yes t ↦ elim (every_or p l) [ inl s ↦ inl (both (p a) (every p l) t s) | inr r ↦ inr (r.0, there r.1, r.2) ]
      | no t ↦ inr (a, here refl, t)
    ]

pub keep_append {ℓ} : {A : Type ℓ} (p : A → Bool) (l r : List A) → keep p (l ++ r) ≡ keep p l ++ keep p r
unfolding keep
keep_append p [] r = refl
keep_append p (a ∷ l) r =
    elim (T? (p a)) [
      | yes t ↦ rw (keep_yes p a (l ++ r) t, keep_yes p a l t, keep_append p l r)
      | no t ↦ rw (keep_no p a (l ++ r) t, keep_no p a l t, keep_append p l r)
    ]

module _ (p : ℕ → Bool) where
  -- where x is kept, it stands behind those that are kept below it
  pub rank : (n x : ℕ) → x < n → T (p x) → (length (keep p (up_to x)) < length (keep p (up_to n))) × (get_or (keep p (up_to n)) (length (keep p (up_to x))) 0 ≡ x)
  unfolding up_to
  rank zero x l t = absurd (omega arith)
  rank (suc n) x l t =
      rw (keep_append p (up_to n) (n ∷ []))
      (elim (dec_lt x n) [
        | yes k ↦ let r = rank n x k t in
            (omega (arith, r.0, length-append (keep p (up_to n)) (keep p (n ∷ []))), get_or-append (keep p (up_to n)) (keep p (n ∷ [])) 0 (length (keep p (up_to x))) r.0 ∙ r.1)
        | no g ↦ let e : x ≡ n = omega arith in
            rw (← e, keep_yes p x [] t)
            (omega (arith, length-append (keep p (up_to x)) (x ∷ keep p [])), get_or-append_seam (keep p (up_to x)) x (keep p []) 0)
      ])

  pub ranked : (n i : ℕ) → i < length (keep p (up_to n)) → length (keep p (up_to (get_or (keep p (up_to n)) i 0))) ≡ i
  unfolding up_to keep
  ranked zero i l = absurd (omega arith)
  ranked (suc n) i l =
      let k : i < length (keep p (up_to n) ++ keep p (n ∷ [])) = rw (keep_append p (up_to n) (n ∷ [])) at l in
      rw (keep_append p (up_to n) (n ∷ []))
      (elim (dec_lt i (length (keep p (up_to n)))) [
        | yes j ↦ rw (get_or-append (keep p (up_to n)) (keep p (n ∷ [])) 0 i j) (ranked n i j)
        | no j ↦ elim (T? (p n)) [
          | yes t ↦ let h : i < length (keep p (up_to n) ++ (n ∷ keep p [])) = rw (keep_yes p n [] t) at k in
              let e : i ≡ length (keep p (up_to n)) = omega (arith, length-append (keep p (up_to n)) (n ∷ keep p [])) in
              rw (keep_yes p n [] t, e, get_or-append_seam (keep p (up_to n)) n (keep p []) 0)
          | no t ↦ let h : i < length (keep p (up_to n) ++ keep p []) = rw (keep_no p n [] t) at k in
              absurd (omega (arith, length-append (keep p (up_to n)) (keep p [])))
        ]
      ])

pub map_set : {A B : Type 0} (g : A → B) (l : List A) (i : ℕ) (y : A) → map g (set l i y) ≡ set (map g l) i (g y)
map_set g [] i y = refl
map_set g (x ∷ l) zero y = refl
map_set g (x ∷ l) (suc i) y = ap (λ r. g x ∷ r) (map_set g l i y)

pub member_insert : (s t : List Map) (m c : Map) → Member c (s ++ t) → Member c (s ++ (m ∷ t))
member_insert s t m c i = elim (append_cases s i) [ inl j ↦ append_left (m ∷ t) j | inr j ↦ append_right s (there j) ]

pub other_member : (l : List Map) (i j : ℕ) → i < length l → i ≢ j → Member (get_or l i []) (without j l)
other_member [] i j h d = absurd (omega arith)
other_member (m ∷ l) zero zero h d = absurd (d refl)
other_member (m ∷ l) zero (suc j) h d = here refl
other_member (m ∷ l) (suc i) zero h d = member_at l i [] (omega arith)
other_member (m ∷ l) (suc i) (suc j) h d = there (other_member l i j (omega arith) (λ e. d (ap suc e)))
