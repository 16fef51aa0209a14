-- Kernels: relabelling, counting the names, and why a relabelling is a merge.
use Prim.Native.Nat.{ℕ, zero, suc, ◌+◌, ◌≤◌, ◌<◌, min}
use mathlib.Core.List.{List}
use mathlib.Core.Path.{◌≡◌, refl, sym, ap, ◌∙◌}
use native.Mathlib.Decide.{dec_lt, ℕ_discrete}
use native.Mathlib.Omega.{arith}
use lib.Dec.{eqb}
use lib.ListN.{length, get_or, set}
use lib.Seq.{get_or-set_same, get_or-set_other}
use borrow.Author.Tests.{eq-eqb, ne_eqb}
use Rattle.kernel.specs.InnerKernel.{Canonical, Within, relabel, Filled, bit, names, Merged}
use Rattle.kernel.specs.InnerLargest.{Larger}

pub relabel_same : (old new v : ℕ) → v ≡ old → relabel old new v ≡ new
unfolding relabel
relabel_same old new v e = rw (eq-eqb v old e, relabel)

pub relabel_other : (old new v : ℕ) → (v ≡ old → ⊥) → relabel old new v ≡ v
unfolding relabel
relabel_other old new v h = rw (ne_eqb v old h, relabel)

-- the identity is a map, inside everything
pub identity_canonical : (n : ℕ) (f : ℕ → ℕ) → ((x : ℕ) → x < n → f x ≡ x) → Canonical n f
identity_canonical n f e = record { below = λ x l. omega (arith, e x l); named = λ x l. ap f (e x l) }

pub identity_within : (n : ℕ) (f g : ℕ → ℕ) → ((x : ℕ) → x < n → f x ≡ x) → Within n f g
identity_within n f g e x y lx ly p = ap g (sym (e x lx) ∙ p ∙ e y ly)

pub names_identity : (n : ℕ) (f : ℕ → ℕ) → ((x : ℕ) → x < n → f x ≡ x) → names n f ≡ n
unfolding names
names_identity zero f e = refl
names_identity (suc n) f e =
    let h : names n f ≡ n = names_identity n f (λ x l. e x (omega arith)) in
    let t : bit (eqb (f n) n) ≡ 1 = ap bit (eq-eqb (f n) n (e n (omega arith))) in
    omega arith

-- two functions that agree below n have as many names of their own there
pub names_same : (n : ℕ) (f g : ℕ → ℕ) → ((x : ℕ) → x < n → f x ≡ g x) → names n f ≡ names n g
unfolding names
names_same zero f g e = refl
names_same (suc n) f g e =
    let h : names n f ≡ names n g = names_same n f g (λ x l. e x (omega arith)) in
    let t : bit (eqb (f n) n) ≡ bit (eqb (g n) n) = ap (λ (v : ℕ). bit (eqb v n)) (e n (omega arith)) in
    omega arith

-- a map of one element at least has a block
pub names_positive : (n : ℕ) (f : ℕ → ℕ) → 0 < n → Canonical n f → 0 < names n f
unfolding names
names_positive zero f l c = l
names_positive (suc zero) f l c =
    let t : bit (eqb (f 0) 0) ≡ 1 = ap bit (eq-eqb (f 0) 0 (omega (arith, c.below 0 l))) in
    omega arith
names_positive (suc (suc n)) f l c =
    let h : 0 < names (suc n) f = names_positive (suc n) f (omega arith) (record { below = λ x q. c.below x (omega arith); named = λ x q. c.named x (omega arith) }) in
    omega arith

-- f' is f with the block that f names by f b put under f a, the smaller name
module _ (n : ℕ) (f f' : ℕ → ℕ) (a b : ℕ) (c : Canonical n f) (la : a < n) (lb : b < n) (lt : f a < f b)
    (e : (x : ℕ) → x < n → f' x ≡ relabel (f b) (f a) (f x)) where
  at_same : (x : ℕ) → x < n → f x ≡ f b → f' x ≡ f a
  at_same x l p = e x l ∙ relabel_same (f b) (f a) (f x) p

  at_other : (x : ℕ) → x < n → (f x ≡ f b → ⊥) → f' x ≡ f x
  at_other x l p = e x l ∙ relabel_other (f b) (f a) (f x) p

  low : f a < n
  low = omega (arith, c.below a la)

  name_low : f' (f a) ≡ f a
  name_low = let r : f (f a) ≡ f a = c.named a la in at_other (f a) low (omega arith) ∙ r

  merged_canonical : Canonical n f'
  merged_canonical = record {
    below = λ x l. elim (ℕ_discrete (f x) (f b)) [
      | yes p ↦ omega (arith, at_same x l p, c.below x l)
      | no p ↦ omega (arith, at_other x l p, c.below x l)
    ];
    named = λ x l. elim (ℕ_discrete (f x) (f b)) [
      | yes p ↦ cc (at_same x l p, name_low)
      | no p ↦ let r : f (f x) ≡ f x = c.named x l in cc (at_other x l p, at_other (f x) (omega (arith, c.below x l)) (λ q. p (sym r ∙ q)))
    ];
  }

  merged_within : Within n f f'
  merged_within x y lx ly p = e x lx ∙ ap (relabel (f b) (f a)) p ∙ sym (e y ly)

  merged_holds : f' a ≡ f' b
  merged_holds = at_other a la (omega arith) ∙ sym (at_same b lb refl)

  -- where g joins what f joins, and a and b, an element has its new name's value
  name : (g : ℕ → ℕ) → Within n f g → g a ≡ g b → (x : ℕ) → x < n → g x ≡ g (f' x)
  name g w q x l = elim (ℕ_discrete (f x) (f b)) [
    | yes p ↦ cc (w x b l lb p, at_same x l p, w a (f a) la low (sym (c.named a la)))
    | no p ↦ cc (at_other x l p, w x (f x) l (omega (arith, c.below x l)) (sym (c.named x l)))
  ]

  merged_least : (g : ℕ → ℕ) → Within n f g → g a ≡ g b → Within n f' g
  merged_least g w q x y lx ly p = name g w q x lx ∙ ap g p ∙ sym (name g w q y ly)

  -- b's name alone is no longer its own
  names_elsewhere : (x : ℕ) → x < n → (x ≡ f b → ⊥) → bit (eqb (f' x) x) ≡ bit (eqb (f x) x)
  names_elsewhere x l d = elim (ℕ_discrete (f x) (f b)) [
    | yes p ↦
        let s : f' x ≡ f a = at_same x l p in
        ap bit (ne_eqb (f' x) x (λ q. let z : f x ≡ f a = cc (c.named a la) in omega arith) ∙ sym (ne_eqb (f x) x (omega arith)))
    | no p ↦ ap (λ (v : ℕ). bit (eqb v x)) (at_other x l p)
  ]

  names_before : (k : ℕ) → k ≤ f b → k ≤ n → names k f' ≡ names k f
  unfolding names
  names_before zero h l = refl
  names_before (suc k) h l =
      let i : names k f' ≡ names k f = names_before k (omega arith) (omega arith) in
      omega (arith, names_elsewhere k l (omega arith))

  names_there : bit (eqb (f' (f b)) (f b)) + 1 ≡ bit (eqb (f (f b)) (f b))
  names_there =
      let r : f (f b) ≡ f b = c.named b lb in
      let s : f' (f b) ≡ f a = at_same (f b) (omega (arith, c.below b lb)) r in
      rw (ne_eqb (f' (f b)) (f b) (omega arith), eq-eqb (f (f b)) (f b) r)

  names_after : (k : ℕ) → f b < k → k ≤ n → names k f' + 1 ≡ names k f
  unfolding names
  names_after zero h l = absurd (omega arith)
  names_after (suc k) h l = elim (ℕ_discrete k (f b)) [
    | yes p ↦
        let t : bit (eqb (f' k) k) + 1 ≡ bit (eqb (f k) k) = rw p names_there in
        omega (arith, names_before k (omega arith) (omega arith))
    | no p ↦
        omega (arith, names_after k (omega arith) (omega arith), names_elsewhere k l p)
  ]

  merged_names : names n f' + 1 ≡ names n f
  merged_names = names_after n (omega (arith, c.below b lb)) (omega arith)

relabelled_merged : (n : ℕ) (f f' : ℕ → ℕ) (a b : ℕ) → Canonical n f → a < n → b < n → f a < f b → Filled n (λ x. relabel (f b) (f a) (f x)) f f' → Merged n a b f f'
relabelled_merged n f f' a b c la lb lt r = record {
  canonical = merged_canonical n f f' a b c la lb lt r.first;
  within = merged_within n f f' a b c la lb lt r.first;
  holds = merged_holds n f f' a b c la lb lt r.first;
  least = merged_least n f f' a b c la lb lt r.first;
  blocks = merged_names n f f' a b c la lb lt r.first;
  rest = r.rest;
}

pub merged_swap : {n a b : ℕ} {f f' : ℕ → ℕ} → Merged n a b f f' → Merged n b a f f'
merged_swap m = record {
  canonical = m.canonical;
  within = m.within;
  holds = sym m.holds;
  least = λ g w q. m.least g w (sym q);
  blocks = m.blocks;
  rest = m.rest;
}

-- the larger of the two names, `old`, becomes the smaller, `new`
pub relabelled_either : (n : ℕ) (f f' : ℕ → ℕ) (a b old new : ℕ) → Canonical n f → a < n → b < n → (f a ≡ f b → ⊥) → Larger (f a) (f b) old
    → new ≡ min (f a) (f b) → Filled n (λ x. relabel old new (f x)) f f' → Merged n a b f f'
relabelled_either n f f' a b old new c la lb d larger smaller r =
    elim (dec_lt (f a) (f b)) [
      | yes l ↦
          let o : old ≡ f b = omega (arith, larger.least (suc (f b)) (omega arith) (omega arith)) in
          let s : new ≡ f a = omega arith in
          relabelled_merged n f f' a b c la lb l (rw (o, s) at r)
      | no l ↦
          let o : old ≡ f a = omega (arith, larger.least (suc (f a)) (omega arith) (omega arith)) in
          let s : new ≡ f b = omega arith in
          merged_swap (relabelled_merged n f f' b a c lb la (omega (arith, d)) (rw (o, s) at r))
    ]

-- ---- a loop that fills a slice

pub filled_none : (F f : ℕ → ℕ) → Filled 0 F f f
filled_none F f = record { first = λ x l. absurd (omega arith); rest = λ x l. refl }

-- one more value is written
pub filled_more : {i : ℕ} {F f : ℕ → ℕ} (m : List ℕ) (v : ℕ) → i < length m → v ≡ F i → Filled i F f (λ x. get_or m x 0) → Filled (i + 1) F f (λ x. get_or (set m i v) x 0)
filled_more {i} {F} {f} m v l e r = record {
  first = λ x h. elim (ℕ_discrete x i) [
    | yes p ↦ rw p (get_or-set_same m i v 0 l ∙ e)
    | no p ↦ get_or-set_other m i x v 0 p ∙ r.first x (omega arith)
  ];
  rest = λ x h. get_or-set_other m i x v 0 (omega arith) ∙ r.rest x (omega arith);
}

-- the loop's end
pub filled_all : {n i : ℕ} {F f f' : ℕ → ℕ} → i ≤ n → n ≤ i → Filled i F f f' → Filled n F f f'
filled_all {n} {i} l k r = let e : i ≡ n = omega arith in rw e at r
