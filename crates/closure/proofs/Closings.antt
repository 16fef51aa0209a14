-- Why the queue is enough: once each queued element has gone, with the name of its block, through the translations whose other arguments
-- were still in use, the map is a congruence. Every argument list is led, one argument at a time and in the order of the queue, to the
-- list of the names of its blocks.
use Prim.Native.Nat.{ℕ, zero, suc, ◌+◌, ◌-◌, ◌≤◌, ◌<◌}
use mathlib.Core.Bool.{Bool, true}
use mathlib.Core.List.{List, [], ◌∷◌, ◌++◌, map, append_assoc, map-append}
use mathlib.Core.Logic.{◌⊎◌, inl, inr}
use mathlib.Core.Path.{◌≡◌, refl, sym, ap, subst, ◌∙◌, ap₂}
use native.Mathlib.Decide.{dec_lt, ℕ_discrete}
use native.Mathlib.Omega.{arith}
use lib.ListN.{length, get_or, set, take, length-append, length-set}
use Rattle.std.proofs.lemmas.List.{get_or-take}
use Rattle.std.proofs.lemmas.Grind.{common_steps}
use lib.Seq.{get_or-set_same, get_or-set_other}
use borrow.Author.Tests.{eq-eqb, eqb-true}
use Rattle.equivalence.specs.Equivalence.{byte}
use Rattle.kernel.specs.InnerKernel.{Canonical, Within, relabel, Listed, names}
use Rattle.kernel.proofs.Kernels.{relabel_same, relabel_other}
use Rattle.algebra.specs.Accepted.{Accepted}
use Rattle.algebra.specs.Algebra.{Algebra}
use Rattle.translation.specs.InnerTranslations.{result, Compatible}
use Rattle.algebra.proofs.Accepted.{WellFormed, accepted_well_formed}
use Rattle.closure.specs.InnerClosing.{InUse, NamesInUse, Begun, Retired}
use Rattle.closure.proofs.Collections.{count_of_names}
use Rattle.sweep.specs.InnerContexts.{All, ImagesIn, OperationsIn, Contexts}
use Rattle.sweep.specs.InnerQueue.{QueueState, InQueue, Queued, Grown}
use Rattle.sweep.specs.InnerSweeps.{TwoJoined, Unless, RefusedRightly, Yes, Halts, Sweeping, SweptTo, Swept}
use Rattle.sweep.specs.declared.Stop.{Stop}
use Rattle.sweep.proofs.Images.{all_map, all_below, below_all, all_append, images_kept, listed_below, compatible_whole, compatible_images}
use Rattle.kernel.proofs.Names.{name_back}
use Rattle.sweep.proofs.Queues.{in_queue_kept, grown_first}
use Rattle.sweep.proofs.Sweeps.{one_block, joined_kept, swept_more, swept_halted}

-- ---- lists of arguments

module _ (a : Algebra) (j : ℕ) (f : ℕ → ℕ) where
  -- replacing one argument after another
  replaced : (L : ℕ → Type 0) (t : ℕ → ℕ) → ((x : ℕ) → L x → L (t x)) → ((x : ℕ) → L x → ImagesIn a j L x (t x) f) → (pre xs : List ℕ)
      → length pre + length xs ≡ get_or a.arities j 0 → All L pre → All L xs → f (result a j (pre ++ xs)) ≡ f (result a j (pre ++ map t xs))
  replaced L t stays h pre [] e p q = refl
  replaced L t stays h pre (x ∷ xs) e p q =
      h x q.0 pre xs (omega arith) p q.1
      ∙ ap (λ (z : List ℕ). f (result a j z)) (sym (append_assoc pre (t x ∷ []) xs))
      ∙ replaced L t stays h (pre ++ (t x ∷ [])) xs (rw (length-append pre (t x ∷ [])) (omega arith)) (all_append L pre (t x ∷ []) p (stays x q.0, tt)) q.1
      ∙ ap (λ (z : List ℕ). f (result a j z)) (append_assoc pre (t x ∷ []) (map t xs))

images_fewer : (a : Algebra) (j x y : ℕ) (f : ℕ → ℕ) (L M : ℕ → Type 0) → ((c : ℕ) → M c → L c) → ImagesIn a j L x y f → ImagesIn a j M x y f
images_fewer a j x y f L M h i pre post e p q = i pre post e (all_map h pre p) (all_map h post q)

map_same : (f g : ℕ → ℕ) (L : ℕ → Type 0) → ((x : ℕ) → L x → f x ≡ g x) → (xs : List ℕ) → All L xs → map f xs ≡ map g xs
map_same f g L h [] p = refl
map_same f g L h (x ∷ xs) p = ap₂ (λ (y : ℕ) (ys : List ℕ). y ∷ ys) (h x p.0) (map_same f g L h xs p.1)

map_twice : (f t : ℕ → ℕ) (L : ℕ → Type 0) → ((x : ℕ) → L x → f (t x) ≡ f x) → (xs : List ℕ) → All L xs → map f (map t xs) ≡ map f xs
map_twice f t L h [] p = refl
map_twice f t L h (x ∷ xs) p = ap₂ (λ (y : ℕ) (ys : List ℕ). y ∷ ys) (h x p.0) (map_twice f t L h xs p.1)

map_still : (f : ℕ → ℕ) (L : ℕ → Type 0) → ((x : ℕ) → L x → f x ≡ x) → (xs : List ℕ) → All L xs → map f xs ≡ xs
map_still f L h [] p = refl
map_still f L h (x ∷ xs) p = ap₂ (λ (y : ℕ) (ys : List ℕ). y ∷ ys) (h x p.0) (map_still f L h xs p.1)

all_mapped : (L M : ℕ → Type 0) (t : ℕ → ℕ) → ((x : ℕ) → L x → M (t x)) → (xs : List ℕ) → All L xs → All M (map t xs)
all_mapped L M t h [] p = tt
all_mapped L M t h (x ∷ xs) p = (h x p.0, all_mapped L M t h xs p.1)

map_length : (t : ℕ → ℕ) (xs : List ℕ) → length (map t xs) ≡ length xs
map_length t [] = refl
map_length t (x ∷ xs) = ap suc (map_length t xs)

-- ---- in use

-- x is a name of the congruence at the beginning, and not among the first k of the queue
pub record Alive (n : ℕ) (base queue : ℕ → ℕ) (k x : ℕ) : Type 0 where
  pub small : x < n
  pub name : base x ≡ x
  pub waiting : (i : ℕ) → i < k → queue i ≡ x → ⊥

alive_same : {n k : ℕ} {base queue queue' : ℕ → ℕ} → ((i : ℕ) → i < k → queue' i ≡ queue i) → (x : ℕ) → Alive n base queue k x → Alive n base queue' k x
alive_same h x m = record { small = m.small; name = m.name; waiting = λ i l e. m.waiting i l (sym (h i l) ∙ e) }

-- element number i of the queue has gone through the translations in use then, together with `to`
pub record Dealt (a : Algebra) (base : ℕ → ℕ) (s : QueueState) (i : ℕ) : Type 0 where
  pub to : ℕ
  pub alive : Alive a.size base s.queue (i + 1) to
  pub same : s.map to ≡ s.map (s.queue i)
  pub images : OperationsIn a (length a.arities) (Alive a.size base s.queue i) to (s.queue i) s.map

-- where the loop stands: the first k of the queue are dealt with, unless v and w are joined
pub record Running (a : Algebra) (v w k : ℕ) (s : QueueState) (live : List ℕ) (count : ℕ) : Type 0 where
  pub base : ℕ → ℕ
  pub canonical : Canonical a.size base
  pub compatible : Compatible a base
  pub within : Within a.size base s.map
  pub lost : (x : ℕ) → x < a.size → base x ≡ x → (s.map x ≡ x) ⊎ InQueue s x
  pub listed : (x : ℕ) → Alive a.size base s.queue k x → Listed live count x
  pub alive : (x : ℕ) → Listed live count x → Alive a.size base s.queue k x
  pub queued : (i : ℕ) → i < s.size → base (s.queue i) ≡ s.queue i
  pub number : count + k ≡ s.size + names a.size s.map
  pub dealt : (TwoJoined v w s.map → ⊥) → (i : ℕ) → i < k → Dealt a base s i

pub running_none : {a : Algebra} {v w : ℕ} {s : QueueState} {live places : List ℕ} {count : ℕ} → InUse a.size live places count → Begun a s live count → Running a v w 0 s live count
running_none {a} {live = live} held b = record {
  base = b.base;
  canonical = b.canonical;
  compatible = b.compatible;
  within = b.within;
  lost = b.lost;
  listed = λ x m. b.listed x m.small m.name;
  alive = λ x m. record { small = subst (λ (z : ℕ). z < a.size) m.1.1 (held.below m.0 m.1.0); name = b.own x m; waiting = λ i l. absurd (omega arith) };
  queued = b.queued;
  number = omega (arith, b.number);
  dealt = λ u i l. absurd (omega arith);
}

module _ (a : Algebra) (accepted : Accepted a) {refused : List ℕ} {stop : Stop} {k : ℕ} {s t : QueueState} {live live' places' : List ℕ} {count count' : ℕ}
    (r : Running a stop.v stop.w k s live count) (lk : k < s.size) (at : Sweeping a.size stop s)
    (e : Swept a.size refused stop (OperationsIn a (length a.arities) (Listed live count) (s.map (s.queue k)) (s.queue k)) s t)
    (out : Retired a.size (s.queue k) live count live' places' count') where
  ok : WellFormed a
  ok = accepted_well_formed a accepted

  q : Queued a.size s
  q = at.ready.queued

  abbrev d : Grown a.size (λ g. OperationsIn a (length a.arities) (Listed live count) (s.map (s.queue k)) (s.queue k) g × RefusedRightly a.size refused stop.v stop.w g) s t
  d = e.grown

  -- the name of a queued element's block
  abbrev name : ℕ
  name = s.map (s.queue k)

  name_small : name < a.size
  name_small = omega (arith, q.canonical.below (s.queue k) (q.small k lk), q.small k lk)

  name_alive : Alive a.size r.base t.queue (k + 1) name
  name_alive = record {
    small = name_small;
    name = name_back r.canonical q.canonical r.within name name_small (q.canonical.named (s.queue k) (q.small k lk));
    waiting = λ i l e. q.lost i (omega arith)
        (subst (λ (z : ℕ). s.map z ≡ z) (sym (sym (d.kept i (omega arith)) ∙ e)) (q.canonical.named (s.queue k) (q.small k lk)));
  }

  alive_before : (i : ℕ) → i ≤ s.size → (x : ℕ) → Alive a.size r.base t.queue i x → Alive a.size r.base s.queue i x
  alive_before i l = alive_same (λ h lh. sym (d.kept h (omega arith)))

  dealt_new : (TwoJoined stop.v stop.w t.map → ⊥) → Dealt a r.base t k
  dealt_new u = record {
    to = name;
    alive = name_alive;
    same = d.within name (s.queue k) name_small (q.small k lk) (q.canonical.named (s.queue k) (q.small k lk)) ∙ ap t.map (sym (d.kept k lk));
    images = record {
      each = λ j lj. subst (λ (z : ℕ). ImagesIn a j (Alive a.size r.base t.queue k) name z t.map) (sym (d.kept k lk))
          (images_fewer a j name (s.queue k) t.map (Listed live count) (Alive a.size r.base t.queue k) (λ c m. r.listed c (alive_before k (omega arith) c m)) ((e.done u).each j lj));
    };
  }

  dealt_old : (i : ℕ) → i < k → Dealt a r.base s i → Dealt a r.base t i
  dealt_old i l x = record {
    to = x.to;
    alive = alive_same (λ h lh. d.kept h (omega arith)) x.to x.alive;
    same = d.within x.to (s.queue i) x.alive.small (q.small i (omega arith)) x.same ∙ ap t.map (sym (d.kept i (omega arith)));
    images = record {
      each = λ j lj. subst (λ (z : ℕ). ImagesIn a j (Alive a.size r.base t.queue i) x.to z t.map) (sym (d.kept i (omega arith)))
          (images_fewer a j x.to (s.queue i) t.map (Alive a.size r.base s.queue i) (Alive a.size r.base t.queue i) (alive_before i (omega arith))
          (images_kept a ok j (Alive a.size r.base s.queue i) x.to (s.queue i) d.within (x.images.each j lj)));
    };
  }

  pub running_more : Running a stop.v stop.w (k + 1) t live' count'
  running_more = record {
    base = r.base;
    canonical = r.canonical;
    compatible = r.compatible;
    within = λ x y lx ly e. d.within x y lx ly (r.within x y lx ly e);
    lost = λ x l e. elim (r.lost x l e) [ inl i ↦ d.pushed x l i | inr i ↦ inr (in_queue_kept d x i) ];
    listed = λ x m. out.kept x
        (r.listed x (record { small = m.small; name = m.name; waiting = λ i l e. m.waiting i (omega arith) (d.kept i (omega arith) ∙ e) }))
        (λ e. m.waiting k (omega arith) (d.kept k lk ∙ sym e));
    alive = λ x m. let o = r.alive x (out.old x m) in
        record {
          small = o.small;
          name = o.name;
          waiting = λ i l z. elim (ℕ_discrete i k) [
            | yes y ↦ let b : x ≡ s.queue k = sym z ∙ ap t.queue y ∙ d.kept k lk in out.gone (subst (Listed live' count') b m)
            | no y ↦ o.waiting i (omega arith) (sym (d.kept i (omega arith)) ∙ z)
          ];
        };
    queued = λ i l. elim (dec_lt i s.size) [
      | yes j ↦ subst (λ (z : ℕ). r.base z ≡ z) (sym (d.kept i j)) (r.queued i j)
      | no j ↦ name_back r.canonical q.canonical r.within (t.queue i) (d.ready.queued.small i l) (d.taken i (omega arith) l)
    ];
    number = omega (arith, r.number, d.blocks, out.fewer);
    dealt = λ u i l. elim (ℕ_discrete i k) [
      | yes e ↦ subst (Dealt a r.base t) (sym e) (dealt_new u)
      | no e ↦ dealt_old i (omega arith) (r.dealt (joined_kept at.left at.right d.within u) i (omega arith))
    ];
  }

-- ---- the end

module _ (a : Algebra) (ok : WellFormed a) {v w k : ℕ} {s : QueueState} {live : List ℕ} {count : ℕ} (r : Running a v w k s live count) (all : s.size ≤ k)
    (q : Queued a.size s) (u : TwoJoined v w s.map → ⊥) (j : ℕ) (lj : j < length a.arities) where
  abbrev f : ℕ → ℕ
  f = s.map

  abbrev Waits : ℕ → ℕ → Type 0
  Waits i x = Alive a.size r.base s.queue i x

  -- one queued element gives way to its `to`
  module _ (i : ℕ) (l : i < s.size) where
    entry : Dealt a r.base s i
    entry = r.dealt u i (omega arith)

    abbrev step : ℕ → ℕ
    step x = relabel (s.queue i) entry.to x

    step_alive : (x : ℕ) → Waits i x → Waits (i + 1) (step x)
    step_alive x m = elim (ℕ_discrete x (s.queue i)) [
      | yes e ↦ rw (relabel_same (s.queue i) entry.to x e) entry.alive
      | no e ↦ rw (relabel_other (s.queue i) entry.to x e)
          (record { small = m.small; name = m.name; waiting = λ h lh z. elim (ℕ_discrete h i) [ yes y ↦ e (sym z ∙ ap s.queue y) | no y ↦ m.waiting h (omega arith) z ] })
    ]

    earlier : (x : ℕ) → Waits (i + 1) x → Waits i x
    earlier x m = record { small = m.small; name = m.name; waiting = λ h lh. m.waiting h (omega arith) }

    step_same : (x : ℕ) → Waits i x → f (step x) ≡ f x
    step_same x m = elim (ℕ_discrete x (s.queue i)) [
      | yes e ↦ ap f (relabel_same (s.queue i) entry.to x e) ∙ entry.same ∙ ap f (sym e)
      | no e ↦ ap f (relabel_other (s.queue i) entry.to x e)
    ]

    step_images : (x : ℕ) → Waits i x → ImagesIn a j (Waits i) x (step x) f
    step_images x m pre post z p h = elim (ℕ_discrete x (s.queue i)) [
      | yes e ↦ rw (relabel_same (s.queue i) entry.to x e, e) (sym (entry.images.each j lj pre post z p h))
      | no e ↦ rw (relabel_other (s.queue i) entry.to x e) refl
    ]

    stepped : (xs : List ℕ) → length xs ≡ get_or a.arities j 0 → All (Waits i) xs → f (result a j xs) ≡ f (result a j (map step xs))
    stepped xs e p = replaced a j f (Waits i) step (λ x m. earlier (step x) (step_alive x m)) step_images [] xs (omega arith) tt p

  settled : (d i : ℕ) → i + d ≡ s.size → (xs : List ℕ) → length xs ≡ get_or a.arities j 0 → All (Waits i) xs → f (result a j xs) ≡ f (result a j (map f xs))
  settled zero i e xs n p =
      ap (λ (z : List ℕ). f (result a j z)) (sym (map_still f (Waits i) (λ x m. elim (r.lost x m.small m.name) [
        | inl h ↦ h
        | inr h ↦ absurd (m.waiting h.0 (omega (arith, h.1.0)) h.1.1)
      ]) xs p))
  settled (suc d) i e xs n p =
      let l : i < s.size = omega arith in
      stepped i l xs n p
      ∙ settled d (i + 1) (omega arith) (map (step i l) xs) (map_length (step i l) xs ∙ n) (all_mapped (Waits i) (Waits (i + 1)) (step i l) (step_alive i l) xs p)
      ∙ ap (λ (z : List ℕ). f (result a j z)) (map_twice f (step i l) (Waits i) (step_same i l) xs p)

  abbrev Element : ℕ → Type 0
  Element x = x < a.size

  base_small : (x : ℕ) → Element x → Element (r.base x)
  base_small x l = omega (arith, r.canonical.below x l)

  base_images : (x : ℕ) → Element x → ImagesIn a j Element x (r.base x) f
  base_images x l =
      images_kept a ok j Element x (r.base x) r.within
      (λ pre post e p h. r.compatible x (r.base x) l (base_small x l) (sym (r.canonical.named x l)) j lj pre post e (all_below a.size pre p) (all_below a.size post h))

  -- the result at an argument list is joined with the result at the names
  pub named : (xs : List ℕ) → length xs ≡ get_or a.arities j 0 → All Element xs → f (result a j xs) ≡ f (result a j (map f xs))
  named xs e p =
      replaced a j f Element r.base base_small base_images [] xs (omega arith) tt p
      ∙ settled s.size 0 (omega arith) (map r.base xs) (map_length r.base xs ∙ e)
      (all_mapped Element (Waits 0) r.base (λ x l. record { small = base_small x l; name = r.canonical.named x l; waiting = λ i li. absurd (omega arith) }) xs p)
      ∙ ap (λ (z : List ℕ). f (result a j z)) (map_twice f r.base Element (λ x l. r.within (r.base x) x (base_small x l) l (r.canonical.named x l)) xs p)

pub running_compatible : (a : Algebra) → WellFormed a → {v w k : ℕ} {s : QueueState} {live : List ℕ} {count : ℕ} → Running a v w k s live count → s.size ≤ k → Queued a.size s
    → Unless v w (Compatible a) s.map
running_compatible a ok {s = s} r all q u x y lx ly e j lj pre post z p h =
    let n = a.size in
    let long : (c : ℕ) → length (pre ++ (c ∷ post)) ≡ get_or a.arities j 0 = λ c. length-append pre (c ∷ post) ∙ omega arith in
    let whole : (c : ℕ) → c < n → All (λ b. b < n) (pre ++ (c ∷ post)) = λ c l. all_append (λ b. b < n) pre (c ∷ post) (below_all n pre p) (l, below_all n post h) in
    named a ok r all q u j lj (pre ++ (x ∷ post)) (long x) (whole x lx)
    ∙ ap (λ (t : List ℕ). s.map (result a j t)) (map-append s.map pre (x ∷ post) ∙ ap (λ (b : ℕ). map s.map pre ++ (b ∷ map s.map post)) e ∙ sym (map-append s.map pre (y ∷ post)))
    ∙ sym (named a ok r all q u j lj (pre ++ (y ∷ post)) (long y) (whole y ly))

-- a queued element is in use until it is dealt with
pub running_due : {a : Algebra} {v w k : ℕ} {s : QueueState} {live : List ℕ} {count : ℕ} → Running a v w k s live count → Queued a.size s → k < s.size → Listed live count (s.queue k)
running_due {k = k} {s} r q l = r.listed (s.queue k) (record { small = q.small k l; name = r.queued k l; waiting = λ i li e. q.once i k li l e })

-- at the end the elements in use are the names
pub running_left : {a : Algebra} {v w k : ℕ} {s : QueueState} {live places : List ℕ} {count : ℕ} → Running a v w k s live count → Queued a.size s → k ≤ s.size → s.size ≤ k
    → InUse a.size live places count → NamesInUse a.size s.map live places count
running_left {a} {k = k} {s} {live} {places} {count} r q lo hi held =
    let e : count ≡ names a.size s.map = omega (arith, r.number) in
    let named : (x : ℕ) → Listed live count x → s.map x ≡ x = λ x m.
    let o = r.alive x m in
    elim (r.lost x o.small o.name) [ inl h ↦ h | inr h ↦ absurd (o.waiting h.0 (omega (arith, h.1.0)) h.1.1) ] in
    record {
      in_use = held;
      listed = record {
        small = held.below;
        right = λ i l. eq-eqb (s.map (byte live i)) (byte live i) (named (byte live i) (i, (l, refl)));
        all = λ x l t. let n : s.map x ≡ x = eqb-true (s.map x) x t in
            r.listed x (record {
              small = l;
              name = name_back r.canonical q.canonical r.within x l n;
              waiting = λ i li z. q.lost i (omega arith) (subst (λ (y : ℕ). s.map y ≡ y) (sym z) n);
            });
        once = λ i j l lj z. let y : i ≡ j = sym (held.placed i (omega arith)) ∙ ap (byte places) z ∙ held.placed j lj in absurd (omega arith);
        count = e ∙ sym (count_of_names s.map a.size);
      };
    }

-- ---- the loop

-- the passes so far: merges that every compatible function makes
abbrev pub Rounds : ℕ → List ℕ → Stop → Algebra → QueueState → QueueState → Type 0
Rounds n refused stop a s t = SweptTo n refused stop (Compatible a) (λ f. Unit {0}) s t

pub rounds_more : (a : Algebra) {refused : List ℕ} {stop : Stop} {k : ℕ} {s t u : QueueState} {live : List ℕ} {count : ℕ} → Contexts a.size a.cells live count
    → Rounds a.size refused stop a s t → k < t.size → Swept a.size refused stop (OperationsIn a (length a.arities) (Listed live count) (t.map (t.queue k)) (t.queue k)) t u
    → Rounds a.size refused stop a s u
rounds_more a {k = k} {t = t} x h l d =
    let q = h.sweeping.ready.queued in
    let y = t.queue k in
    let ly : y < a.size = q.small k l in
    let lz : t.map y < a.size = omega (arith, q.canonical.below y ly) in
    swept_more h d (λ g good w. compatible_images a (listed_below x) g good (t.map y) y lz ly (w (t.map y) y lz ly (q.canonical.named y ly))) (λ w o j. tt)

pub rounds_halted : (a : Algebra) {refused : List ℕ} {stop : Stop} {s t : QueueState} {r : Bool} → Accepted a → Rounds a.size refused stop a s t → Yes r (Halts stop t.size t.map) → r ≡ true
    → Swept a.size refused stop (Compatible a) s t
rounds_halted a {t = t} accepted h y says = swept_halted h y says (compatible_whole a (accepted_well_formed a accepted) t.map)

pub rounds_all : (a : Algebra) {refused : List ℕ} {stop : Stop} {k : ℕ} {s t : QueueState} {live : List ℕ} {count : ℕ} → Accepted a → Rounds a.size refused stop a s t
    → Running a stop.v stop.w k t live count → t.size ≤ k → Swept a.size refused stop (Compatible a) s t
rounds_all a accepted h r l = record {
  sweeping = h.sweeping;
  grown = h.grown;
  done = running_compatible a (accepted_well_formed a accepted) r l h.sweeping.ready.queued;
}

-- an early end joins v and w, or leaves one block
pub halted_joined : {n : ℕ} {stop : Stop} {s : QueueState} {r : Bool} {P : Type 0} → Sweeping n stop s → Yes r (Halts stop s.size s.map) → r ≡ true → (s.map stop.v ≡ s.map stop.w → ⊥) → P
halted_joined {stop = stop} k y says apart = elim (y.says says) [
  | inl l ↦ let f = one_block k.ready.queued.canonical (omega (arith, k.blocks, l)) in absurd (apart (f stop.v k.left ∙ sym (f stop.w k.right)))
  | inr j ↦ absurd (apart j.one)
]

-- ---- the elements in use

-- the last takes the place of b, which stands at i
module _ {n b : ℕ} (live places : List ℕ) (count : ℕ) (held : InUse n live places count) (m : Listed live count b) where
  abbrev i : ℕ
  i = byte places b

  abbrev last : ℕ
  last = byte live (count - 1)

  place_found : i ≡ m.0
  place_found = ap (byte places) (sym m.1.1) ∙ held.placed m.0 m.1.0

  pub place_below : i < count
  place_below = omega (arith, place_found, m.1.0)

  there : byte live i ≡ b
  there = ap (byte live) place_found ∙ m.1.1

  pub last_below : last < n
  last_below = held.below (count - 1) (omega (arith, place_below))

  new : byte (set live i last) i ≡ last
  new = get_or-set_same live i last 0 (omega (arith, place_below, held.few, held.live_room))

  rest : (h : ℕ) → (h ≡ i → ⊥) → byte (set live i last) h ≡ byte live h
  rest h d = get_or-set_other live i h last 0 d

  -- two places with one element are one
  one_place : (h j : ℕ) → h < count → j < count → byte live h ≡ byte live j → h ≡ j
  one_place h j lh lj e = sym (held.placed h lh) ∙ ap (byte places) e ∙ held.placed j lj

  pub retired_swap : Retired n b live count (set live i last) (set places last i) (count - 1)
  retired_swap = record {
    fewer = omega (arith, place_below);
    in_use = record {
      most = held.most;
      live_room = rw (length-set live i last) held.live_room;
      places_room = rw (length-set places last i) held.places_room;
      few = omega (arith, held.few);
      below = λ j l. elim (ℕ_discrete j i) [
        | yes z ↦ rw z (omega (arith, new, last_below))
        | no z ↦ omega (arith, rest j z, held.below j (omega arith))
      ];
      placed = λ j l. elim (ℕ_discrete j i) [
        | yes z ↦ rw z (ap (byte (set places last i)) new ∙ get_or-set_same places last i 0 (omega (arith, last_below, held.most, held.places_room)))
        | no z ↦ ap (byte (set places last i)) (rest j z)
            ∙ get_or-set_other places last (byte live j) i 0 (λ e. let y : j ≡ count - 1 = one_place j (count - 1) (omega arith) (omega (arith, place_below)) e in absurd (omega arith)) ∙ held.placed j (omega arith)
      ];
    };
    kept = λ c m h. elim (ℕ_discrete m.0 (count - 1)) [
      | yes z ↦ elim (ℕ_discrete i (count - 1)) [
        | yes y ↦ absurd (h (sym m.1.1 ∙ ap (byte live) (z ∙ sym y) ∙ there))
        | no y ↦ (i, (omega (arith, place_below), new ∙ ap (byte live) (sym z) ∙ m.1.1))
      ]
      | no z ↦ (m.0, (omega (arith, m.1.0), rest m.0 (λ y. h (sym m.1.1 ∙ ap (byte live) y ∙ there)) ∙ m.1.1))
    ];
    old = λ c m. elim (ℕ_discrete m.0 i) [
      | yes z ↦ (count - 1, (omega (arith, place_below), sym new ∙ ap (byte (set live i last)) (sym z) ∙ m.1.1))
      | no z ↦ (m.0, (omega (arith, m.1.0), sym (rest m.0 z) ∙ m.1.1))
    ];
    gone = λ m. elim (ℕ_discrete m.0 i) [
      | yes z ↦ let e : last ≡ b = sym new ∙ ap (byte (set live i last)) (sym z) ∙ m.1.1 in
          let y : count - 1 ≡ i = one_place (count - 1) i (omega (arith, place_below)) place_below (e ∙ sym there) in
          absurd (omega (arith, m.1.0))
      | no z ↦ let y : m.0 ≡ i = one_place m.0 i (omega (arith, m.1.0)) place_below (sym (rest m.0 z) ∙ m.1.1 ∙ sym there) in absurd (z y)
    ];
  }

-- the first `count` of a list, as a list of their own
module _ (live : List ℕ) {count : ℕ} (l : count ≤ length live) where
  front_long : length (take count live) ≡ count
  front_long = grind (arith, common_steps)

  front_byte : (i : ℕ) → i < count → byte (take count live) i ≡ byte live i
  front_byte i k = get_or-take count live i 0 k

  front_listed : (c : ℕ) → Listed live count c → Listed (take count live) (length (take count live)) c
  front_listed c m = (m.0, (omega (arith, front_long, m.1.0), front_byte m.0 m.1.0 ∙ m.1.1))

  front_back : (c : ℕ) → Listed (take count live) (length (take count live)) c → Listed live count c
  front_back c m = let k : m.0 < count = omega (arith, front_long, m.1.0) in (m.0, (k, sym (front_byte m.0 k) ∙ m.1.1))

  pub front_contexts : {n : ℕ} {cells : List ℕ} → Contexts n cells live count → Contexts n cells (take count live) (length (take count live))
  front_contexts x = record {
    cells_most = x.cells_most;
    cells_below = x.cells_below;
    live_room = omega arith;
    live_below = λ i k. let h : i < count = omega (arith, front_long) in omega (arith, front_byte i h, x.live_below i h);
  }

  -- a pass with these as contexts
  pub front_swept : (a : Algebra) {n x y : ℕ} {refused : List ℕ} {stop : Stop} {s t : QueueState}
      → Swept n refused stop (OperationsIn a (length a.arities) (Listed (take count live) (length (take count live))) x y) s t
      → Swept n refused stop (OperationsIn a (length a.arities) (Listed live count) x y) s t
  front_swept a {n} {x} {y} {t = t} d = record {
    sweeping = d.sweeping;
    grown = grown_first (λ g good w. (record { each = λ j lj. images_fewer a j x y g _ _ front_back (good.0.each j lj) }, good.1)) d.grown;
    done = λ u. record { each = λ j lj. images_fewer a j x y t.map _ _ front_listed ((d.done u).each j lj) };
  }

-- elements in use as contexts
pub use_contexts : {n : ℕ} {cells live live' places' : List ℕ} {count count' : ℕ} → Contexts n cells live count → InUse n live' places' count' → Contexts n cells live' count'
use_contexts k held = record { cells_most = k.cells_most; cells_below = k.cells_below; live_room = omega (arith, held.few, held.live_room); live_below = held.below }
