-- The laws of the passes: a pass begins, goes on, ends early, since one block is left; and refused pairs. Those over lines are in `Crossings`, those over tables in
-- `TableLaws`.
use Prim.Native.Nat.{ℕ, zero, suc, ◌+◌, ◌-◌, ◌≤◌, ◌<◌}
use mathlib.Core.Bool.{Bool, true, false}
use mathlib.Core.List.{List}
use mathlib.Core.Logic.{inl, inr}
use mathlib.Core.Path.{◌≡◌, refl, sym, ap, subst, subst₂, ◌∙◌}
use native.Mathlib.Decide.{dec_lt, ℕ_discrete}
use native.Mathlib.Omega.{arith}
use lib.Dec.{eqb}
use borrow.Author.Tests.{eq-eqb, eqb-true}
use Rattle.kernel.specs.InnerKernel.{Canonical, Within, bit, names}
use Rattle.kernel.proofs.Kernels.{names_positive}
use Rattle.sweep.specs.declared.Stop.{Stop}
use Rattle.sweep.specs.InnerQueue.{QueueState, Grown}
use Rattle.sweep.specs.InnerSweeps.{chosen_of, TwoJoined, Yes, Halts, RefusedRightly, NamesRefused, Sweeping, SweptTo, Swept}
use Rattle.sweep.proofs.Queues.{grown_none, grown_more, grown_first}

-- ---- one block

names_up : (f : ℕ → ℕ) (i d : ℕ) → names i f ≤ names (i + d) f
unfolding names
names_up f i zero = let e : i + 0 ≡ i = omega arith in rw e (omega arith)
names_up f i (suc d) = let e : i + suc d ≡ suc (i + d) = omega arith in rw e (omega (arith, names_up f i d))

names_at : (f : ℕ → ℕ) (x : ℕ) → f x ≡ x → names (suc x) f ≡ names x f + 1
unfolding names
names_at f x e = omega (arith, ap bit (eq-eqb (f x) x e))

pub one_block : {n : ℕ} {f : ℕ → ℕ} → Canonical n f → names n f ≤ 1 → (x : ℕ) → x < n → f x ≡ 0
one_block {n} {f} c h x l =
    let r = f x in
    let lr : r < n = omega (arith, c.below x l) in
    elim (dec_lt 0 r) [
      | yes z ↦ let p : 0 < names r f = names_positive r f z (record { below = λ y k. c.below y (omega arith); named = λ y k. c.named y (omega arith) }) in
          let e : suc r + (n - suc r) ≡ n = omega arith in
          let u : names (suc r) f ≤ names n f = rw e at (names_up f (suc r) (n - suc r)) in
          absurd (omega (arith, names_at f r (c.named x l)))
      | no z ↦ omega arith
    ]

-- ---- passes

pub joined_kept : {n v w : ℕ} {f f' : ℕ → ℕ} → v < n → w < n → Within n f f' → (TwoJoined v w f' → ⊥) → TwoJoined v w f → ⊥
joined_kept {n} {v} {w} lv lw h u j = u (record { two = j.two; one = h v w lv lw j.one })

pub sweeping_grown : {n : ℕ} {stop : Stop} {Good : (ℕ → ℕ) → Type 0} {s t : QueueState} → Sweeping n stop s → Grown n Good s t → Sweeping n stop t
sweeping_grown k d = record { ready = d.ready; left = k.left; right = k.right; blocks = d.blocks ∙ k.blocks }

module _ {n : ℕ} {refused : List ℕ} {stop : Stop} {Good : (ℕ → ℕ) → Type 0} where
  -- nothing is done yet
  pub swept_none : {Done : (ℕ → ℕ) → Type 0} {s : QueueState} → Sweeping n stop s → Done s.map → SweptTo n refused stop Good Done s s
  swept_none k e = record { sweeping = k; grown = grown_none (λ g. Good g × RefusedRightly n refused stop.v stop.w g) k.ready; done = λ u. e }

  -- one pass more, which every Good function makes
  pub swept_more : {Step Done Done' : (ℕ → ℕ) → Type 0} {s t u : QueueState} → SweptTo n refused stop Good Done s t → Swept n refused stop Step t u
      → ((g : ℕ → ℕ) → Good g → Within n t.map g → Step g) → (Within n t.map u.map → Done t.map → Step u.map → Done' u.map)
      → SweptTo n refused stop Good Done' s u
  swept_more a b h e = record {
    sweeping = b.sweeping;
    grown = grown_more (λ g good w. (h g good.0 w, good.1)) a.grown b.grown;
    done = λ u. e b.grown.within (a.done (joined_kept b.sweeping.left b.sweeping.right b.grown.within u)) (b.done u);
  }

  -- an early end: with one block left the work is done, unless v and w are joined
  pub swept_halted : {Done : (ℕ → ℕ) → Type 0} {s t : QueueState} {r : Bool} → SweptTo n refused stop Good Done s t → Yes r (Halts stop t.size t.map) → r ≡ true
      → (((x : ℕ) → x < n → t.map x ≡ 0) → Good t.map) → Swept n refused stop Good s t
  swept_halted a h e p = record {
    sweeping = a.sweeping;
    grown = a.grown;
    done = λ u. elim (h.says e) [ inl l ↦ p (one_block a.sweeping.ready.queued.canonical (omega (arith, a.sweeping.blocks, l))) | inr j ↦ absurd (u j) ];
  }

  pub swept_as : {Done Done' : (ℕ → ℕ) → Type 0} {s t : QueueState} → SweptTo n refused stop Good Done s t → (Done t.map → Done' t.map) → SweptTo n refused stop Good Done' s t
  swept_as a h = record { sweeping = a.sweeping; grown = a.grown; done = λ u. h (a.done u) }

-- what a loop has shown of each index passed stays so under f', and holds at one more
pub each_more : (J : ℕ → (ℕ → ℕ) → Type 0) (f f' : ℕ → ℕ) {i : ℕ} → ((j : ℕ) → j < i → J j f → J j f')
    → ((j : ℕ) → j < i → J j f) → J i f' → (j : ℕ) → j < i + 1 → J j f'
each_more J f f' {i} w h e j l = elim (ℕ_discrete j i) [
  | yes p ↦ subst (λ (k : ℕ). J k f') (sym p) e
  | no p ↦ w j (omega arith) (h j (omega arith))
]

-- ---- marks

-- a test that says no
pub yes_not : {P : Type 0} → Yes false P
yes_not = record { says = λ s. absurd (omega (arith, ap bit s)) }

pub halted_joined : {stop : Stop} {len : ℕ} {f : ℕ → ℕ} → (stop.v ≡ stop.w → ⊥) → Yes (eqb (f stop.v) (f stop.w)) (Halts stop len f)
halted_joined {stop} {f = f} h = record { says = λ s. inr (record { two = h; one = eqb-true (f stop.v) (f stop.w) s }) }

-- whatever refuses rightly, holds a map and joins a and b, whose names in the map are refused, joins v and w
refused_joins : {n v w a b : ℕ} {table : List ℕ} {f g : ℕ → ℕ} → Canonical n f → a < n → b < n → NamesRefused table v w a b f → RefusedRightly n table v w g → Within n f g → g a ≡ g b → g v ≡ g w
refused_joins {n} {v} {w} {a} {b} {table} {f} {g} c la lb x h d e =
    let sa : f a < n = omega (arith, c.below a la) in
    let sb : f b < n = omega (arith, c.below b lb) in
    let i : g (f a) ≡ g (f b) = d (f a) a sa la (c.named a la) ∙ e ∙ d b (f b) lb sb (sym (c.named b lb)) in
    elim x.refused [ inl k ↦ h (f a) (f b) sa sb k i | inr k ↦ h (f b) (f a) sb sa k (sym i) ]

module _ {n a b : ℕ} {refused : List ℕ} {stop : Stop} {s t : QueueState} (k : Sweeping n stop s) (la : a < n) (lb : b < n) where
  -- a step that joined v and w instead of a refused pair
  swept_refused : {r : Bool} → Yes r (NamesRefused refused stop.v stop.w a b s.map) → r ≡ true → Grown n (λ g. g stop.v ≡ g stop.w) s t → t.map stop.v ≡ t.map stop.w
      → Swept n refused stop (λ g. g a ≡ g b) s t
  swept_refused x y d e = record {
    sweeping = sweeping_grown k d;
    grown = grown_first (λ g good w. refused_joins k.ready.queued.canonical la lb (x.says y) good.1 w good.0) d;
    done = λ u. absurd (u (record { two = (x.says y).two; one = e }));
  }

  -- a step that joined the pair
  swept_joined : Grown n (λ g. g a ≡ g b) s t → t.map a ≡ t.map b → Swept n refused stop (λ g. g a ≡ g b) s t
  swept_joined d e = record { sweeping = sweeping_grown k d; grown = grown_first (λ g good w. good.0) d; done = λ u. e }

  swept_chosen : (r : Bool) → Yes r (NamesRefused refused stop.v stop.w a b s.map) → Grown n (λ g. g (chosen_of r stop.v a) ≡ g (chosen_of r stop.w b)) s t
      → t.map (chosen_of r stop.v a) ≡ t.map (chosen_of r stop.w b) → Swept n refused stop (λ g. g a ≡ g b) s t
  swept_chosen true x d e = swept_refused x refl d e
  swept_chosen false x d e = swept_joined d e

  -- a step with the pair that was chosen
  pub swept_step : {r : Bool} {p q : ℕ} → Yes r (NamesRefused refused stop.v stop.w a b s.map) → p ≡ chosen_of r stop.v a → q ≡ chosen_of r stop.w b
      → Grown n (λ g. g p ≡ g q) s t → t.map p ≡ t.map q → Swept n refused stop (λ g. g a ≡ g b) s t
  swept_step {r} x e f d j = swept_chosen r x (subst₂ (λ (p q : ℕ). Grown n (λ g. g p ≡ g q) s t) e f d) (ap t.map (sym e) ∙ j ∙ ap t.map f)
