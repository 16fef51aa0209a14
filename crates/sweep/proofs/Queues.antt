-- The laws of a map that grows with its queue: which name a merge takes away; nothing done, one step after another, a merge with its push.
use Prim.Native.Nat.{ℕ, ◌+◌, ◌≤◌, ◌<◌, min}
use mathlib.Core.List.{List}
use mathlib.Core.Logic.{inl, inr}
use mathlib.Core.Path.{◌≡◌, refl, sym, ap, subst, ◌∙◌}
use native.Mathlib.Decide.{dec_lt, ℕ_discrete}
use native.Mathlib.Omega.{arith}
use lib.ListN.{length, set, length-set}
use lib.Seq.{get_or-set_same, get_or-set_other}
use Rattle.equivalence.specs.Equivalence.{byte}
use Rattle.kernel.proofs.Names.{name_back}
use Rattle.kernel.specs.InnerKernel.{Canonical, Within, Filled, relabel, Merged}
use Rattle.kernel.proofs.Kernels.{names_positive, relabel_same, relabel_other, relabelled_either, merged_swap}
use Rattle.kernel.specs.InnerLargest.{Larger}
use Rattle.sweep.specs.InnerQueue.{QueueState, state, InQueue, Queued, Padded, Ready, Grown}

-- ---- names

-- a merge takes away the larger of the two names and no other
module _ {n a b : ℕ} {f f' : ℕ → ℕ} (c : Canonical n f) (la : a < n) (lb : b < n) (lt : f a < f b) (d : Merged n a b f f') where
  higher_lost : f' (f b) ≡ f b → ⊥
  higher_lost e =
      let sa : f a < n = omega (arith, c.below a la) in
      let sb : f b < n = omega (arith, c.below b lb) in
      let ta : f' (f a) ≡ f' a = d.within (f a) a sa la (c.named a la) in
      let tb : f' (f b) ≡ f' b = d.within (f b) b sb lb (c.named b lb) in
      omega (arith, d.holds, d.canonical.below (f a) sa)

  others_kept : (x : ℕ) → x < n → f x ≡ x → (x ≡ f b → ⊥) → f' x ≡ x
  others_kept x l e h =
      let g : ℕ → ℕ = λ z. relabel (f b) (f a) (f z) in
      let y = f' x in
      let ly : y < n = omega (arith, d.canonical.below x l) in
      let ey : f y ≡ y = name_back c d.canonical d.within y ly (d.canonical.named x l) in
      let ga : g a ≡ g b = relabel_other (f b) (f a) (f a) (omega arith) ∙ sym (relabel_same (f b) (f a) (f b) refl) in
      let w : g x ≡ g y = d.least g (λ u v lu lv p. ap (relabel (f b) (f a)) p) ga x y l ly (sym (d.canonical.named x l)) in
      let gx : g x ≡ x = relabel_other (f b) (f a) (f x) (λ p. h (sym e ∙ p)) ∙ e in
      let gy : g y ≡ y = relabel_other (f b) (f a) (f y) (λ p. higher_lost (subst (λ (z : ℕ). f' z ≡ z) (sym ey ∙ p) (d.canonical.named x l))) ∙ ey in
      sym gy ∙ sym w ∙ gx

-- what a merge does to the names, r being the larger of the two
pub record NameLost (n r : ℕ) (f f' : ℕ → ℕ) : Type 0 where
  pub small : r < n
  pub name : f r ≡ r
  pub lost : f' r ≡ r → ⊥
  pub others : (x : ℕ) → x < n → f x ≡ x → (x ≡ r → ⊥) → f' x ≡ x

merged_lost : {n a b r : ℕ} {f f' : ℕ → ℕ} → Canonical n f → a < n → b < n → (f a ≡ f b → ⊥) → Larger (f a) (f b) r → Merged n a b f f' → NameLost n r f f'
merged_lost {n} {a} {b} {r} {f} {f'} c la lb h m d =
    elim (dec_lt (f a) (f b)) [
      | yes l ↦ let e : f b ≡ r = omega (arith, m.right, m.least (f b + 1) (omega arith) (omega arith)) in
          subst (λ (z : ℕ). NameLost n z f f') e
          (record { small = omega (arith, c.below b lb); name = c.named b lb; lost = higher_lost c la lb l d; others = others_kept c la lb l d })
      | no l ↦ let k : f b < f a = omega (arith, h) in
          let e : f a ≡ r = omega (arith, m.left, m.least (f a + 1) (omega arith) (omega arith)) in
          let s = merged_swap d in
          subst (λ (z : ℕ). NameLost n z f f') e
          (record { small = omega (arith, c.below a la); name = c.named a la; lost = higher_lost c lb la k s; others = others_kept c lb la k s })
    ]

-- ---- growth

pub grown_none : {n : ℕ} (Good : (ℕ → ℕ) → Type 0) {s : QueueState} → Ready n s → Grown n Good s s
grown_none Good r = record {
  ready = r;
  within = λ x y lx ly p. p;
  blocks = refl;
  longer = omega arith;
  kept = λ k l. refl;
  pushed = λ x l e. inl e;
  older = λ x l e. e;
  taken = λ k l h. absurd (omega arith);
  sound = λ g good w. w;
  rest = λ x l. refl;
}

-- what is queued stays queued
pub in_queue_kept : {n : ℕ} {Good : (ℕ → ℕ) → Type 0} {s t : QueueState} → Grown n Good s t → (x : ℕ) → InQueue s x → InQueue t x
in_queue_kept d x i = (i.0, (omega (arith, i.1.0, d.longer), d.kept i.0 i.1.0 ∙ i.1.1))

pub grown_more : {n : ℕ} {Good More : (ℕ → ℕ) → Type 0} {s t u : QueueState} → ((g : ℕ → ℕ) → Good g → Within n t.map g → More g)
    → Grown n Good s t → Grown n More t u → Grown n Good s u
grown_more {s = s} {t} {u} h a b = record {
  ready = b.ready;
  within = λ x y lx ly p. b.within x y lx ly (a.within x y lx ly p);
  blocks = b.blocks ∙ a.blocks;
  longer = omega arith;
  kept = λ k l. b.kept k (omega arith) ∙ a.kept k l;
  pushed = λ x l e. elim (a.pushed x l e) [ inl i ↦ b.pushed x l i | inr i ↦ inr (in_queue_kept b x i) ];
  older = λ x l e. a.older x l (b.older x l e);
  taken = λ k l h. elim (dec_lt k t.size) [
    | yes j ↦ subst (λ (z : ℕ). s.map z ≡ z) (sym (b.kept k j)) (a.taken k l j)
    | no j ↦ a.older (u.queue k) (b.ready.queued.small k h) (b.taken k (omega arith) h)
  ];
  sound = λ g good w. let v = a.sound g good w in b.sound g (h g good v) v;
  rest = λ x l. b.rest x l ∙ a.rest x l;
}

-- growth that more functions are known to make
pub grown_first : {n : ℕ} {Good More : (ℕ → ℕ) → Type 0} {s t : QueueState} → ((g : ℕ → ℕ) → Good g → Within n s.map g → More g) → Grown n More s t → Grown n Good s t
grown_first h d = record {
  ready = d.ready;
  within = d.within;
  blocks = d.blocks;
  longer = d.longer;
  kept = d.kept;
  pushed = d.pushed;
  older = d.older;
  taken = d.taken;
  sound = λ g good w. d.sound g (h g good w) w;
  rest = d.rest;
}

-- where two elements are left there is room in the queue
pub ready_place : {n a : ℕ} {s : QueueState} → Ready n s → a < n → s.size < s.queue_bytes
ready_place {n} {a} {s} r l = omega (arith, r.most, r.queue_room, r.room, names_positive n s.map (omega arith) r.queued.canonical)

-- ---- a merge

-- where the bytes past n name themselves, all 64 may be relabelled: the name taken away is below n
padded_filled : {n : ℕ} (old new : ℕ) {f f' : ℕ → ℕ} → n ≤ 64 → Padded n f → old < n → Filled 64 (λ x. relabel old new (f x)) f f' → Filled n (λ x. relabel old new (f x)) f f'
padded_filled {n} old new {f} m p l d = record {
  first = λ x lx. d.first x (omega arith);
  rest = λ x lx. elim (dec_lt x 64) [
    | yes k ↦ d.first x k ∙ relabel_other old new (f x) (λ e. let z : f x ≡ x = p x lx k in absurd (omega arith))
    | no k ↦ d.rest x (omega arith)
  ];
}

larger_below : {n a b r : ℕ} {f : ℕ → ℕ} → Canonical n f → a < n → b < n → Larger (f a) (f b) r → r < n
larger_below {n} {a} {b} {r} {f} c la lb h =
    elim (dec_lt r n) [ yes l ↦ l | no l ↦ absurd (omega (arith, h.least n (omega (arith, c.below a la)) (omega (arith, c.below b lb)))) ]

-- two elements apart are merged, and the larger of their names, r, is put behind the queue
module _ {n a b k r o : ℕ} (m m' q : List ℕ) (s : Ready n (state m q k)) (la : a < n) (lb : b < n) (h : byte m a ≡ byte m b → ⊥) (larger : Larger (byte m a) (byte m b) r)
    (smaller : o ≡ min (byte m a) (byte m b)) (long : length m' ≡ length m) (d : Filled 64 (λ x. relabel r o (byte m x)) (byte m) (byte m')) where
  merged : Merged n a b (byte m) (byte m')
  merged =
      relabelled_either n (byte m) (byte m') a b r o s.queued.canonical la lb h larger smaller
      (padded_filled r o s.most s.padded (larger_below s.queued.canonical la lb larger) d)

  lost : NameLost n r (byte m) (byte m')
  lost = merged_lost s.queued.canonical la lb h larger merged

  new_entry : byte (set q k r) k ≡ r
  new_entry = get_or-set_same q k r 0 (omega (arith, s.queue_room, s.most, s.room, merged.blocks))

  old_entry : (j : ℕ) → j < k → byte (set q k r) j ≡ byte q j
  old_entry j l = get_or-set_other q k j r 0 (omega arith)

  pushed_queued : Queued n (state m' (set q k r) (k + 1))
  pushed_queued = record {
    canonical = merged.canonical;
    small = λ j l. elim (ℕ_discrete j k) [
      | yes z ↦ rw z (omega (arith, new_entry, lost.small))
      | no z ↦ let i : j < k = omega arith in omega (arith, old_entry j i, s.queued.small j i)
    ];
    lost = λ j l e. elim (ℕ_discrete j k) [
      | yes z ↦ lost.lost (subst (λ (x : ℕ). byte m' x ≡ x) (ap (byte (set q k r)) z ∙ new_entry) e)
      | no z ↦ let i : j < k = omega arith in
          let e' : byte m' (byte q j) ≡ byte q j = subst (λ (x : ℕ). byte m' x ≡ x) (old_entry j i) e in
          s.queued.lost j i (name_back s.queued.canonical merged.canonical merged.within (byte q j) (s.queued.small j i) e')
    ];
    once = λ i j l lj e. elim (ℕ_discrete j k) [
      | yes z ↦ let li : i < k = omega arith in
          let y : byte q i ≡ r = sym (old_entry i li) ∙ e ∙ ap (byte (set q k r)) z ∙ new_entry in
          s.queued.lost i li (subst (λ (x : ℕ). byte m x ≡ x) (sym y) lost.name)
      | no z ↦ let lk : j < k = omega arith in s.queued.once i j l lk (sym (old_entry i (omega arith)) ∙ e ∙ old_entry j lk)
    ];
  }

  pub pushed_grown : Grown n (λ g. g a ≡ g b) (state m q k) (state m' (set q k r) (k + 1))
  pushed_grown = record {
    ready = record {
      most = s.most;
      map_room = long ∙ s.map_room;
      queue_room = rw (length-set q k r) s.queue_room;
      padded = λ x l i. merged.rest x l ∙ s.padded x l i;
      room = omega (arith, s.room, merged.blocks);
      queued = pushed_queued;
    };
    within = merged.within;
    blocks = omega (arith, merged.blocks);
    longer = omega arith;
    kept = old_entry;
    pushed = λ x l e. elim (ℕ_discrete x r) [ yes z ↦ inr (k, (omega arith, new_entry ∙ sym z)) | no z ↦ inl (lost.others x l e z) ];
    older = λ x l e. name_back s.queued.canonical merged.canonical merged.within x l e;
    taken = λ j l i. let z : j ≡ k = omega arith in
        subst (λ (x : ℕ). byte m x ≡ x) (sym (ap (byte (set q k r)) z ∙ new_entry)) lost.name;
    sound = λ g e w. merged.least g w e;
    rest = merged.rest;
  }

  pub pushed_joined : byte m' a ≡ byte m' b
  pushed_joined = merged.holds
