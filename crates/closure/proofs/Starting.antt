-- How a closure starts and ends: the pairs that are joined first; the identity or a congruence as the beginning; and why the map at the
-- end is the least congruence.
use Prim.Native.Nat.{ℕ, ◌+◌, ◌-◌, ◌*◌, ◌≤◌, ◌<◌, ◌/◌}
use mathlib.Core.Bool.{true, false, not}
use mathlib.Core.List.{List, ◌∷◌, ◌++◌}
use mathlib.Core.Logic.{◌⊎◌, inl, inr}
use mathlib.Core.Path.{◌≡◌, refl, sym, ap, subst, ◌∙◌}
use native.Mathlib.Decide.{ℕ_discrete}
use native.Mathlib.Omega.{arith}
use lib.Dec.{eqb}
use lib.ListN.{length}
use borrow.Author.Tests.{eq-eqb, eqb-true, ne_eqb}
use Rattle.equivalence.specs.Equivalence.{byte}
use Rattle.kernel.specs.InnerKernel.{Canonical, Within, names}
use Rattle.kernel.proofs.Kernels.{identity_canonical, names_identity}
use Rattle.algebra.specs.Accepted.{Accepted}
use Rattle.algebra.specs.Algebra.{Algebra, algebra_of}
use Rattle.translation.specs.InnerTranslations.{result, Compatible, Closed}
use Rattle.algebra.proofs.Accepted.{accepted_well_formed}
use Rattle.translation.proofs.Translations.{result_below}
use Rattle.closure.specs.InnerClosing.{InUse, NamesInUse, Begun, ApartMade}
use Rattle.closure.specs.declared.Congruence.{Congruence}
use Rattle.sweep.specs.InnerContexts.{Contexts}
use Rattle.sweep.specs.InnerQueue.{QueueState, state, InQueue, Padded, Ready, Grown}
use Rattle.sweep.specs.InnerSweeps.{TwoJoined, RefusedRightly, Sweeping, Swept}
use Rattle.sweep.specs.declared.Stop.{Stop}
use Rattle.closure.specs.InnerStarts.{Extends, Collected, Tried}
use Rattle.closure.proofs.Collections.{count_of_others, count_of_names}
use Rattle.sweep.proofs.Sweeps.{each_more}

-- ---- the pairs

pub pairs_more : {n i : ℕ} {f f' : ℕ → ℕ} (ps : List ℕ) → ((k : ℕ) → k < length ps → byte ps k < n) → i < length ps / 2 → Within n f f'
    → f' (byte ps (2 * i)) ≡ f' (byte ps (2 * i + 1)) → ((j : ℕ) → j < i → f (byte ps (2 * j)) ≡ f (byte ps (2 * j + 1)))
    → (j : ℕ) → j < i + 1 → f' (byte ps (2 * j)) ≡ f' (byte ps (2 * j + 1))
pairs_more {n} {i} {f} {f'} ps b l w e h =
    each_more (λ (j : ℕ) (g : ℕ → ℕ). g (byte ps (2 * j)) ≡ g (byte ps (2 * j + 1))) f f'
    (λ j lj. w (byte ps (2 * j)) (byte ps (2 * j + 1)) (b (2 * j) (omega arith)) (b (2 * j + 1) (omega arith))) h e

-- ---- beginnings

-- elements of a list as contexts
pub accepted_contexts : {n count : ℕ} (arities : List ℕ) {cells live : List ℕ} → Accepted (algebra_of n arities cells) → count ≤ length live → ((i : ℕ) → i < count → byte live i < n)
    → Contexts n cells live count
accepted_contexts {n} {count} arities {cells} h l b =
    let w = accepted_well_formed (algebra_of n arities cells) h in
    record { cells_most = omega (arith, w.filled, w.room); cells_below = w.below; live_room = l; live_below = b }

-- the identity has n blocks
pub identity_total : (n : ℕ) (f : ℕ → ℕ) → ((x : ℕ) → x < n → f x ≡ x) → 0 + names n f ≡ n
identity_total n f h = omega (arith, names_identity n f h)

-- the identity with nothing queued
pub identity_ready : {n : ℕ} (m q : List ℕ) → n ≤ 64 → length m ≡ 64 → length q ≡ 64 → ((x : ℕ) → x < 64 → byte m x ≡ x) → Ready n (state m q 0)
identity_ready {n} m q l a b h = record {
  most = l;
  map_room = a;
  queue_room = b;
  padded = λ x i j. h x j;
  room = omega (arith, names_identity n (byte m) (λ x i. h x (omega arith)));
  queued = record {
    canonical = identity_canonical n (byte m) (λ x i. h x (omega arith));
    small = λ k i. absurd (omega arith);
    lost = λ k i. absurd (omega arith);
    once = λ i k j o. absurd (omega arith);
  };
}

-- a map with nothing queued
pub canonical_ready : {n : ℕ} (m q : List ℕ) → n ≤ 64 → length m ≡ 64 → length q ≡ 64 → Padded n (byte m) → Canonical n (byte m) → Ready n (state m q 0)
canonical_ready {n} m q l a b p c = record {
  most = l;
  map_room = a;
  queue_room = b;
  padded = p;
  room = omega (arith, count_of_others (byte m) n);
  queued = record { canonical = c; small = λ k i. absurd (omega arith); lost = λ k i. absurd (omega arith); once = λ i k j o. absurd (omega arith) };
}

-- a map with all its elements that are no names queued
pub others_ready : {n k : ℕ} (m q : List ℕ) → n ≤ 64 → length m ≡ 64 → length q ≡ 64 → Padded n (byte m) → Canonical n (byte m) → Collected (λ x. not (eqb (byte m x) x)) n (byte q) k
    → Ready n (state m q k)
others_ready {n} {k} m q l a b p c h = record {
  most = l;
  map_room = a;
  queue_room = b;
  padded = p;
  room = omega (arith, h.count, count_of_others (byte m) n);
  queued = record {
    canonical = c;
    small = h.small;
    lost = λ i l e. let t : not (eqb (byte m (byte q i)) (byte q i)) ≡ true = h.right i l in
        let z : eqb (byte m (byte q i)) (byte q i) ≡ true = eq-eqb (byte m (byte q i)) (byte q i) e in
        let y : false ≡ true = ap not (sym z) ∙ t in
        let x : ◌≡◌ {A = ℕ} 0 1 = cc in
        absurd (omega arith);
    once = h.once;
  };
}

pub others_lost : {n k : ℕ} (f : ℕ → ℕ) {q : ℕ → ℕ} → Collected (λ x. not (eqb (f x) x)) n q k → (x : ℕ) → x < n → (f x ≡ x) ⊎ ((i : ℕ) × ((i < k) × (q i ≡ x)))
others_lost f h x l = elim (ℕ_discrete (f x) x) [ yes e ↦ inl e | no e ↦ inr (h.all x l (ap not (ne_eqb (f x) x e))) ]

-- the identity, listed with its places
pub identity_use : {n : ℕ} {live places : List ℕ} → n ≤ 64 → length live ≡ 64 → length places ≡ 64 → ((x : ℕ) → x < 64 → byte live x ≡ x) → ((x : ℕ) → x < 64 → byte places x ≡ x)
    → InUse n live places n
identity_use {n} {live} {places} m a b h k = record {
  most = m;
  live_room = a;
  places_room = b;
  few = m;
  below = λ i l. omega (arith, h i (omega arith));
  placed = λ i l. ap (byte places) (h i (omega arith)) ∙ k i (omega arith);
}

-- above the identity every element is a context
pub identity_begun : (a : Algebra) {s : QueueState} {live : List ℕ} → ((x : ℕ) → x < a.size → byte live x ≡ x) → ((x : ℕ) → x < a.size → (s.map x ≡ x) ⊎ InQueue s x)
    → a.size ≡ s.size + names a.size s.map → Begun a s live a.size
identity_begun a {s} h l e = record {
  base = λ x. x;
  canonical = record { below = λ x k. omega arith; named = λ x k. refl };
  compatible = λ x y lx ly e j lj pre post z p q. ap (λ (v : ℕ). result a j (pre ++ (v ∷ post))) e;
  within = λ x y lx ly e. ap s.map e;
  lost = λ x k e. l x k;
  listed = λ x k e. (x, (k, h x k));
  own = λ x m. refl;
  queued = λ i k. refl;
  number = e;
}

-- above a congruence its names are
pub congruence_begun : (a : Algebra) {Good : (ℕ → ℕ) → Type 0} {s t : QueueState} {live : List ℕ} {count : ℕ} → Canonical a.size s.map → Compatible a s.map → s.size ≡ 0
    → Collected (λ x. eqb (s.map x) x) a.size (byte live) count → Grown a.size Good s t → Begun a t live count
congruence_begun a {s = s} {t} {live} c h z listed d = record {
  base = s.map;
  canonical = c;
  compatible = h;
  within = d.within;
  lost = λ x k e. d.pushed x k e;
  listed = λ x k e. listed.all x k (eq-eqb (s.map x) x e);
  own = λ x m. subst (λ (y : ℕ). s.map y ≡ y) m.1.1 (eqb-true (s.map (byte live m.0)) (byte live m.0) (listed.right m.0 m.1.0));
  queued = λ i l. d.taken i (omega arith) l;
  number = omega (arith, listed.count, count_of_names s.map a.size, d.blocks);
}

pub sweeping_start : {n : ℕ} {s : QueueState} (total v w : ℕ) → Ready n s → v < n → w < n → 0 < total → s.size + names n s.map ≡ total
    → Sweeping n (record { limit = total - 1; v = v; w = w }) s
sweeping_start total v w r lv lw z e = record { ready = r; left = lv; right = lw; blocks = omega arith }

-- ---- endings

-- where v and w are one, nothing is marked and nothing is halted for
module _ (a : Algebra) {refused : List ℕ} {stop : Stop} {Good Start : (ℕ → ℕ) → Type 0} {s t u : QueueState}
    (h : (g : ℕ → ℕ) → Good g → Within a.size s.map g × Start g) (d : Grown a.size Start s t) (e : Swept a.size refused stop (Compatible a) t u) (one : stop.v ≡ stop.w) where
  pub grown_closed : Good u.map → Closed a Good u.map
  grown_closed good = record {
    canonical = e.sweeping.ready.queued.canonical;
    compatible = e.done (λ j. j.two one);
    good = good;
    least = λ g cg gg. e.grown.sound g (cg, λ p q lp lq k i. ap g one) (d.sound g (h g gg).1 (h g gg).0);
  }

-- ---- copies

pub canonical_copied : {n : ℕ} {f f' : ℕ → ℕ} → ((x : ℕ) → x < n → f' x ≡ f x) → Canonical n f → Canonical n f'
canonical_copied {f = f} {f'} e c = record {
  below = λ x l. omega (arith, e x l, c.below x l);
  named = λ x l. ap f' (e x l) ∙ e (f x) (omega (arith, c.below x l)) ∙ c.named x l ∙ sym (e x l);
}

-- a map that is copied, closed and copied back
pub extends_copied : {n x y : ℕ} {f f₁ f₂ f' : ℕ → ℕ} → ((z : ℕ) → z < n → f₁ z ≡ f z) → ((z : ℕ) → z < n → f' z ≡ f₂ z) → x < n → y < n → Extends n f₁ x y f₂ → Extends n f x y f'
extends_copied {x = x} {y} d e lx ly h = (
  λ u v lu lv p. e u lu ∙ h.0 u v lu lv (d u lu ∙ p ∙ sym (d v lv)) ∙ sym (e v lv),
  e x lx ∙ h.1 ∙ sym (e y ly),
)

-- a closure that is copied
pub closed_copied : (a : Algebra) {Good Good' : (ℕ → ℕ) → Type 0} {f f' : ℕ → ℕ} → Accepted a → ((x : ℕ) → x < a.size → f' x ≡ f x) → Good' f' → ((g : ℕ → ℕ) → Good' g → Good g) → Closed a Good f
    → Closed a Good' f'
closed_copied a {f = f} {f'} accepted e good back c =
    let w = accepted_well_formed a accepted in
    record {
      canonical = canonical_copied e c.canonical;
      compatible = λ x y lx ly p j l pre post s b d.
          e (result a j (pre ++ (x ∷ post))) (result_below a w j (pre ++ (x ∷ post)))
          ∙ c.compatible x y lx ly (sym (e x lx) ∙ p ∙ e y ly) j l pre post s b d
          ∙ sym (e (result a j (pre ++ (y ∷ post))) (result_below a w j (pre ++ (y ∷ post))));
      good = good;
      least = λ g cg gg x y lx ly p. c.least g cg (back g gg) x y lx ly (sym (e x lx) ∙ p ∙ e y ly);
    }

-- ---- a try

pub grown_tried : (a : Algebra) {refused : List ℕ} {stop : Stop} {x y : ℕ} {s t u : QueueState} → x < a.size → y < a.size → s.size ≡ 0
    → ((g : ℕ → ℕ) → Compatible a g → Within a.size s.map g → RefusedRightly a.size refused stop.v stop.w g) → Grown a.size (λ g. g x ≡ g y) s t → t.map x ≡ t.map y
    → Swept a.size refused stop (Compatible a) t u → Tried a x y stop.v stop.w s.map u.map u.size
grown_tried a {x = x} {y} lx ly z right d j e = record {
  canonical = e.sweeping.ready.queued.canonical;
  good = (λ b h lb lh p. e.grown.within b h lb lh (d.within b h lb lh p), e.grown.within x y lx ly j);
  least = λ g cg gg. e.grown.sound g (cg, right g cg gg.0) (d.sound g gg.1 gg.0);
  compatible = e.done;
  lost = omega (arith, e.grown.blocks, d.blocks);
  rest = λ b l. e.grown.rest b l ∙ d.rest b l;
}

pub tried_closed : {a : Algebra} {x y v w r : ℕ} {f f' : ℕ → ℕ} → Tried a x y v w f f' r → (TwoJoined v w f' → ⊥) → Closed a (Extends a.size f x y) f'
tried_closed t u = record { canonical = t.canonical; compatible = t.compatible u; good = t.good; least = t.least }

pub tried_joined : {a : Algebra} {x y v w r : ℕ} {f f' : ℕ → ℕ} → v < a.size → w < a.size → Tried a x y v w f f' r → f' v ≡ f' w
    → (g : ℕ → ℕ) → Compatible a g → Extends a.size f x y g → g v ≡ g w
tried_joined {v = v} {w} lv lw t j g cg gg = t.least g cg gg v w lv lw j

pub tried_apart : {a : Algebra} {x y v w r : ℕ} {f : ℕ → ℕ} (c : Congruence) → Tried a x y v w f (byte c.map) r → (byte c.map v ≡ byte c.map w → ⊥)
    → NamesInUse a.size (byte c.map) c.names.list c.names.places c.names.count → ApartMade a x y v w f c
tried_apart c t j held = record { closed = tried_closed t (λ i. j i.one); apart = j; left = held; rest = t.rest }
