-- The laws of closing by kept pairs: a kept map is joined, names are joined element by element, the queue is taken to its end; the join of congruences is one.
use Prim.Native.Nat.{ℕ, zero, suc, ◌+◌, ◌*◌, ◌-◌, ◌≤◌, ◌<◌}
use mathlib.Core.List.{List, ◌∷◌, ◌++◌}
use mathlib.Core.Logic.{◌⊎◌, inl, inr}
use mathlib.Core.Path.{◌≡◌, refl, sym, ap, subst, ◌∙◌}
use native.Mathlib.Decide.{dec_lt, ℕ_discrete}
use native.Mathlib.Omega.{arith}
use lib.Dec.{eqb}
use lib.ListN.{length}
use borrow.Author.Tests.{eqb-true, eq-eqb}
use Rattle.equivalence.specs.Equivalence.{byte}
use Rattle.kernel.specs.InnerKernel.{Canonical, Within}
use Rattle.kernel.proofs.Kernels.{identity_within}
use Rattle.algebra.specs.Accepted.{Accepted}
use Rattle.algebra.specs.Algebra.{Algebra}
use Rattle.algebra.proofs.Accepted.{WellFormed, accepted_well_formed}
use Rattle.translation.specs.InnerTranslations.{result, Compatible, Closed}
use Rattle.translation.proofs.Translations.{result_below}
use Rattle.sweep.specs.InnerQueue.{QueueState, InQueue, Ready, Grown}
use Rattle.sweep.proofs.Images.{below_all, compatible_images}
use Rattle.sweep.proofs.Queues.{grown_none, grown_more, in_queue_kept}
use Rattle.sweep.proofs.Sweeps.{each_more}
use Rattle.keeping.specs.InnerKeeping.{ImagesJoined, Fresh, PairKept, kept_at, mark_of, Stored, KeptHere}
use Rattle.keeping.specs.InnerPrincipal.{JoinsNames, JoinedTo, Linked, Raised, Closing, FullMap, Sure, Trusted, popped, Taking, Taken, Absorbing, Absorbed, Working, ClosedUnless, Worked, Rebuilding, Rebuilt, Growing, PairGrown, PrincipalHere}
use Rattle.keeping.proofs.Storing.{from, from_long, from_byte, kept_canonical}
use Rattle.keeping.proofs.Keepings.{empty_ready, joined_images, alike_compatible, alike_kept, kept_from, keeping_stored, stored_kept, mark_whole, keeping_whole}

-- ---- a kept map joined

pub joined_none : {n : ℕ} {f : ℕ → ℕ} {s : QueueState} → Ready n s → JoinedTo n 0 f s s
joined_none {n} {f} r = record { grown = grown_none (JoinsNames n f) r; joined = record { each = λ z l. absurd (omega arith) } }

pub name_small : {n z : ℕ} {f : ℕ → ℕ} → Canonical n f → z < n → f z < n
name_small {z = z} c l = omega (arith, c.below z l)

pub joined_more : {n i : ℕ} {f : ℕ → ℕ} {s t u : QueueState} → Canonical n f → i < n → JoinedTo n i f s t → Grown n (λ g. g i ≡ g (f i)) t u → u.map i ≡ u.map (f i) → JoinedTo n (i + 1) f s u
joined_more {n} {i} {f} {t = t} {u} c l a d e = record {
  grown = grown_more (λ g good w. good.each i l) a.grown d;
  joined = record {
    each = each_more (λ (z : ℕ) (g : ℕ → ℕ). g z ≡ g (f z)) t.map u.map (λ z lz k. d.within z (f z) (omega arith) (omega (arith, c.below z (omega arith))) k) a.joined.each e;
  };
}

pub joined_all : {n i : ℕ} {f : ℕ → ℕ} {s t : QueueState} → i ≤ n → n ≤ i → JoinedTo n i f s t → JoinedTo n n f s t
joined_all l h a = record { grown = a.grown; joined = record { each = λ z lz. a.joined.each z (omega arith) } }

-- what joins all elements with their names in f joins what f joins
pub names_within : {n : ℕ} {f g : ℕ → ℕ} → JoinsNames n f g → Within n f g
names_within {g = g} h x y lx ly p = h.each x lx ∙ ap g p ∙ sym (h.each y ly)

-- and the other way round, for a canonical f
pub within_names : {n : ℕ} {f g : ℕ → ℕ} → Canonical n f → Within n f g → JoinsNames n f g
within_names {f = f} c w = record { each = λ z l. w z (f z) l (omega (arith, c.below z l)) (sym (c.named z l)) }

-- ---- compatible

module _ {a : Algebra} where
  -- images of one element, of two the other way round, of two by a third
  pub images_same : {x : ℕ} {f : ℕ → ℕ} → ImagesJoined a x x f
  images_same = record { each = λ j l pre post s p q. refl }

  pub images_swap : {x y : ℕ} {f : ℕ → ℕ} → ImagesJoined a x y f → ImagesJoined a y x f
  images_swap h = record { each = λ j l pre post s p q. sym (h.each j l pre post s p q) }

  pub images_chain : {x y z : ℕ} {f : ℕ → ℕ} → ImagesJoined a x y f → ImagesJoined a y z f → ImagesJoined a x z f
  images_chain h k = record { each = λ j l pre post s p q. h.each j l pre post s p q ∙ k.each j l pre post s p q }

  images_from : {x y z : ℕ} {f : ℕ → ℕ} → x ≡ z → ImagesJoined a x y f → ImagesJoined a z y f
  images_from {y = y} {f = f} e h = subst (λ (u : ℕ). ImagesJoined a u y f) e h

  -- f is compatible where it joins the images of every element and its name
  pub named_compatible : {f : ℕ → ℕ} → ((b : ℕ) → b < a.size → ImagesJoined a (f b) b f) → Compatible a f
  named_compatible {f} h x y lx ly e j lj pre post s p q =
      (images_chain (images_swap (images_from e (h x lx))) (h y ly)).each j lj pre post s (below_all a.size pre p) (below_all a.size post q)

  -- and where every element that is no name is linked
  linked_named : {f : ℕ → ℕ} → Canonical a.size f → ((b : ℕ) → b < a.size → (f b ≡ b → ⊥) → Linked a b f) → (k b : ℕ) → b < k → b < a.size → ImagesJoined a (f b) b f
  linked_named c h zero b l lb = absurd (omega arith)
  linked_named {f} c h (suc k) b l lb =
      elim (ℕ_discrete (f b) b) [
        | yes e ↦ images_from (sym e) images_same
        | no e ↦
            let i = h b lb e in
            let less : i.smaller < b = i.less in
            images_chain (images_from i.joined (linked_named c h k i.smaller (omega (arith, less)) (omega (arith, less)))) i.images
      ]

  pub linked_compatible : {f : ℕ → ℕ} → Canonical a.size f → ((b : ℕ) → b < a.size → (f b ≡ b → ⊥) → Linked a b f) → Compatible a f
  linked_compatible c h = named_compatible (λ b l. linked_named c h (suc b) b (omega arith) l)

-- ---- joins of congruences

-- f' is compatible where it lies above compatible f and g and inside every function that does
pub least_compatible : {a : Algebra} → WellFormed a → {f g f' : ℕ → ℕ} → Compatible a f → Compatible a g → Within a.size f f' → Within a.size g f'
    → ((h : ℕ → ℕ) → Within a.size f h → Within a.size g h → Within a.size f' h) → Compatible a f'
least_compatible {a} ok {f} {g} {f'} cf cg wf wg least x y lx ly e j lj pre post s p q =
    least (λ (z : ℕ). f' (result a j (pre ++ (z ∷ post))))
    (λ u v lu lv k. wf (result a j (pre ++ (u ∷ post))) (result a j (pre ++ (v ∷ post))) (result_below a ok j (pre ++ (u ∷ post))) (result_below a ok j (pre ++ (v ∷ post))) (cf u v lu lv k j lj pre post s p q))
    (λ u v lu lv k. wg (result a j (pre ++ (u ∷ post))) (result a j (pre ++ (v ∷ post))) (result_below a ok j (pre ++ (u ∷ post))) (result_below a ok j (pre ++ (v ∷ post))) (cg u v lu lv k j lj pre post s p q))
    x y lx ly e

-- ---- closing

linked_kept : {a : Algebra} → WellFormed a → {b : ℕ} {f f' : ℕ → ℕ} → b < a.size → Within a.size f f' → Linked a b f → Linked a b f'
linked_kept ok {b} lb w h = record {
  smaller = h.smaller;
  less = h.less;
  joined = w h.smaller b (omega (arith, h.less)) lb h.joined;
  images = joined_images ok w h.images;
}

-- without the last element of the queue
pub popped_ready : {n : ℕ} {s : QueueState} → Ready n s → Ready n (popped s)
popped_ready r = record {
  most = r.most;
  map_room = r.map_room;
  queue_room = r.queue_room;
  padded = r.padded;
  room = omega (arith, r.room);
  queued = record {
    canonical = r.queued.canonical;
    small = λ k l. r.queued.small k (omega arith);
    lost = λ k l. r.queued.lost k (omega arith);
    once = λ i k l h. r.queued.once i k l (omega arith);
  };
}

-- the last of the queue and its name are a pair
pub last_small : {n : ℕ} {s : QueueState} → Ready n s → 0 < s.size → s.queue (s.size - 1) < n
last_small {s = s} r l = r.queued.small (s.size - 1) (omega arith)

pub last_pair : {n : ℕ} {s : QueueState} → Ready n s → 0 < s.size → s.map (s.queue (s.size - 1)) < s.queue (s.size - 1)
last_pair {s = s} r l =
    let b : ℕ = s.queue (s.size - 1) in
    omega (arith, r.queued.lost (s.size - 1) (omega arith), r.queued.canonical.below b (last_small r l))

-- with the last element gone, each element that is no name is queued still, was the last, or is linked
popped_linked : {a : Algebra} {f : ℕ → ℕ} {s : QueueState} → Closing a f s → (b : ℕ) → b < a.size → (s.map b ≡ b → ⊥) → InQueue (popped s) b ⊎ ((s.queue (s.size - 1) ≡ b) ⊎ Linked a b s.map)
popped_linked {s = s} c b l lost =
    elim (c.linked b l lost) [
      | inl q ↦ elim (dec_lt q.0 (s.size - 1)) [
        | yes h ↦ inl (q.0, (h, q.1.1))
        | no h ↦
            let i : s.size - 1 ≡ q.0 = omega (arith, q.1.0) in
            inr (inl (ap s.queue i ∙ q.1.1))
      ]
      | inr k ↦ inr (inr k)
    ]

-- ---- what is sure

pub full_ready : {n : ℕ} {s : QueueState} → FullMap n s.map_bytes s.map → s.queue_bytes ≡ 64 → s.size ≡ 0 → Ready n s
full_ready h room none = empty_ready h.most h.room room none h.canonical h.padded

module _ {a : Algebra} (accepted : Accepted a) where
  ok : WellFormed a
  ok = accepted_well_formed a accepted

  -- that map is kept for the same pair
  start_kept : {x y : ℕ} {f : ℕ → ℕ} {s : QueueState} → x < a.size → y < a.size → PairKept a x y f → Rebuilt a.size f s → PairKept a x y s.map
  start_kept {x} {y} lx ly k d = record {
    canonical = d.ready.queued.canonical;
    joined = d.above x y lx ly k.joined;
    images = joined_images ok d.above k.images;
    inside = λ g c e u v lu lv p. k.inside g c e u v lu lv (d.inside u v lu lv p);
    padded = d.ready.padded;
  }

  pub raised_kept : {x y : ℕ} {f f' : ℕ → ℕ} → x < a.size → y < a.size → PairKept a x y f → Raised a f f' → PairKept a x y f'
  raised_kept {x} {y} lx ly k r = record {
    canonical = r.canonical;
    joined = r.within x y lx ly k.joined;
    images = joined_images ok r.within k.images;
    inside = λ g c e. r.inside g c (k.inside g c e);
    padded = r.padded;
  }

  -- what is kept for the last element of the queue, b, and its name, in `kept`, was joined
  module _ {kept f : ℕ → ℕ} {s t : QueueState} (some : 0 < s.size) (pair : PairKept a (s.map (s.queue (s.size - 1))) (s.queue (s.size - 1)) kept)
      (d : JoinedTo a.size a.size kept (popped s) t) (c : Closing a f s) where
    last_below : s.queue (s.size - 1) < a.size
    last_below = last_small c.ready some

    name_less : s.map (s.queue (s.size - 1)) < s.queue (s.size - 1)
    name_less = last_pair c.ready some

    last_linked : Linked a (s.queue (s.size - 1)) t.map
    last_linked = record {
      smaller = s.map (s.queue (s.size - 1));
      less = name_less;
      joined = names_within d.joined (s.map (s.queue (s.size - 1))) (s.queue (s.size - 1)) (omega (arith, last_below, name_less)) last_below pair.joined;
      images = joined_images ok (names_within d.joined) pair.images;
    }

    closing_more : Closing a f t
    closing_more = record {
      ready = d.grown.ready;
      raised = record {
        canonical = d.grown.ready.queued.canonical;
        within = λ x y lx ly p. d.grown.within x y lx ly (c.raised.within x y lx ly p);
        inside = λ g h w.
            let above : Within a.size s.map g = c.raised.inside g h w in
            let less : s.map (s.queue (s.size - 1)) < a.size = omega (arith, last_below, name_less) in
            let e : g (s.map (s.queue (s.size - 1))) ≡ g (s.queue (s.size - 1)) =
            above (s.map (s.queue (s.size - 1))) (s.queue (s.size - 1)) less last_below (c.ready.queued.canonical.named (s.queue (s.size - 1)) last_below) in
            d.grown.sound g (within_names pair.canonical (pair.inside g h e)) above;
        padded = d.grown.ready.padded;
      };
      linked = λ b l lost. elim (ℕ_discrete (s.map b) b) [
        | yes e ↦ elim (d.grown.pushed b l e) [ inl k ↦ absurd (lost k) | inr q ↦ inl q ]
        | no e ↦ elim (popped_linked c b l e) [
          | inl q ↦ inl (in_queue_kept d.grown b q)
          | inr k ↦ inr (elim k [ inl z ↦ subst (λ (z : ℕ). Linked a z t.map) z last_linked | inr i ↦ linked_kept ok l d.grown.within i ])
        ]
      ];
    }

  -- a congruence inside the map joins the last element of the queue and its name
  closing_skip : {k : ℕ} {f g : ℕ → ℕ} {s : QueueState} → 0 < s.size → Sure a k g s.map → g (s.map (s.queue (s.size - 1))) ≡ g (s.queue (s.size - 1)) → Closing a f s → Closing a f (popped s)
  closing_skip {g = g} {s} some sure e c =
      let small : s.queue (s.size - 1) < a.size = last_small c.ready some in
      let less : s.map (s.queue (s.size - 1)) < s.queue (s.size - 1) = last_pair c.ready some in
      let below : s.map (s.queue (s.size - 1)) < a.size = omega arith in
      let linked : Linked a (s.queue (s.size - 1)) s.map = record {
        smaller = s.map (s.queue (s.size - 1));
        less = less;
        joined = c.ready.queued.canonical.named (s.queue (s.size - 1)) small;
        images = joined_images ok sure.within (compatible_images a (λ z l. l) g sure.compatible (s.map (s.queue (s.size - 1))) (s.queue (s.size - 1)) below small e);
      } in
      record {
        ready = popped_ready c.ready;
        raised = c.raised;
        linked = λ b l lost. elim (popped_linked c b l lost) [
          | inl q ↦ inl q
          | inr k ↦ inr (elim k [ inl z ↦ subst (λ (z : ℕ). Linked a z s.map) z linked | inr i ↦ i ])
        ];
      }

  -- what is sure stays sure inside a larger map, and grows by whole maps inside it
  sure_trusted : {mark k k' : ℕ} {kept g g' f f' : ℕ → ℕ} → Canonical a.size kept → (mark ≡ 2 → Compatible a kept) → Within a.size f f' → JoinsNames a.size kept f' → Sure a k g f
      → Trusted a.size mark k' kept g g' → Sure a k' g' f'
  sure_trusted {mark} {g = g} {g'} {f' = f'} c whole w j sure d = record {
    map = d.map;
    compatible = elim (ℕ_discrete mark 2) [
      | yes e ↦ least_compatible ok sure.compatible (whole e) d.within (names_within (d.whole e)) (λ h wg wk. d.least h (within_names c wk) wg)
      | no e ↦ least_compatible ok sure.compatible sure.compatible d.within d.within (λ h wg wk x y lx ly p. wg x y lx ly (d.same e x y lx ly p))
    ];
    within = d.least f' j (λ x y lx ly p. w x y lx ly (sure.within x y lx ly p));
  }

  -- no element is queued any more
  closing_whole : {f : ℕ → ℕ} {s : QueueState} → Closing a f s → s.size ≡ 0 → Compatible a s.map
  closing_whole c none =
      linked_compatible c.ready.queued.canonical (λ b l lost. elim (c.linked b l lost) [ inl q ↦ absurd (omega (arith, q.1.0)) | inr k ↦ k ])

  closed_all : {v w : ℕ} {f : ℕ → ℕ} {s : QueueState} → Closing a f s → s.size ≤ 0 → ClosedUnless a v w f s.map s.size
  closed_all c none = record { raised = c.raised; whole = λ e. closing_whole c e; stopped = λ l. absurd (omega arith) }

-- ---- the queue is taken

-- what is kept for x and y was joined
pub taken : {a : Algebra} {x y p k : ℕ} {g g' : ℕ → ℕ} {old maps marks maps₀ marks₀ : List ℕ} {s t : QueueState} {k₀ : ℕ} → Taking a x y maps₀ marks₀ s k₀ g → KeptHere a x y old maps marks p
    → Trusted a.size (byte marks p) k (byte (from (p * 64) maps)) g g' → JoinedTo a.size a.size (byte (from (p * 64) maps)) s t → Taken a x y s t g k g' maps marks
taken {a} {p = p} {maps = maps} {marks} i h trusted d = record {
  keeping = h.keeping;
  kept = byte (from (p * 64) maps);
  mark = byte marks p;
  pair = kept_from i.accepted i.less i.below h;
  whole = λ two. alike_compatible (accepted_well_formed a i.accepted) (λ z lz. from_byte (p * 64) maps z) (keeping_whole h.keeping i.less i.below h.place two);
  trusted = trusted;
  joined = d;
}

-- the last of the queue was taken, and it was sure
pub absorbed_sure : {a : Algebra} {maps marks : List ℕ} {s : QueueState} {k : ℕ} {g : ℕ → ℕ} → Absorbing a maps marks s k g → g (s.map (s.queue (s.size - 1))) ≡ g (s.queue (s.size - 1))
    → Absorbed a s (popped s) maps marks k g
absorbed_sure h e = record { keeping = h.keeping; closing = λ f c. closing_skip h.accepted h.some h.sure e c; less = omega (arith, h.some); sure = h.sure }

-- or what is kept for it was joined
pub absorbed_joined : {a : Algebra} {maps marks maps' marks' : List ℕ} {s t : QueueState} {k k' : ℕ} {g g' : ℕ → ℕ} → Absorbing a maps marks s k g
    → Taken a (s.map (s.queue (s.size - 1))) (s.queue (s.size - 1)) (popped s) t g k' g' maps' marks' → Absorbed a s t maps' marks' k' g'
absorbed_joined h d = record {
  keeping = d.keeping;
  closing = λ f c. closing_more h.accepted h.some d.pair d.joined c;
  less = omega (arith, h.some, d.joined.grown.blocks);
  sure = sure_trusted h.accepted d.pair.canonical d.whole d.joined.grown.within d.joined.joined h.sure d.trusted;
}

module _ {a : Algebra} {f : ℕ → ℕ} {maps marks : List ℕ} {s : QueueState} {k : ℕ} {g : ℕ → ℕ} (h : Working a f maps marks s k g) where
  pub working_more : {maps' marks' : List ℕ} {t : QueueState} {k' : ℕ} {g' : ℕ → ℕ} → Absorbed a s t maps' marks' k' g' → Working a f maps' marks' t k' g'
  working_more d = record { keeping = d.keeping; accepted = h.accepted; closing = d.closing f h.closing; sure = d.sure }

module _ {a : Algebra} {f : ℕ → ℕ} {maps marks : List ℕ} {v w k r mb qb : ℕ} {f' q g : ℕ → ℕ}
    (h : Working a f maps marks (record { map = f'; map_bytes = mb; queue = q; queue_bytes = qb; size = r }) k g) where
  pub worked_all : r ≤ 0 → Worked a v w f maps marks mb f' r k
  worked_all none = record { keeping = h.keeping; map_room = h.closing.ready.map_room; sure_room = h.sure.map.room; closed = closed_all h.accepted h.closing none }

-- ---- a kept map grown

-- made up by a join with bytes that name themselves
pub rebuilding_joinable : {n p : ℕ} {maps : List ℕ} → Rebuilding n p maps → (n ≤ length (from (p * 64) maps)) × Canonical n (byte (from (p * 64) maps))
rebuilding_joinable {p = p} {maps = maps} i = (omega (arith, from_long (p * 64) maps, i.most, i.maps_room, i.small), kept_canonical p maps i.canonical)

pub rebuilt : {n p : ℕ} {maps : List ℕ} {s t : QueueState} → Rebuilding n p maps → Fresh s.map_bytes s.map → JoinedTo n n (byte (from (p * 64) maps)) s t → Rebuilt n (kept_at maps p) t
rebuilt {n} {p} {maps} {s} {t} i e d = record {
  ready = d.grown.ready;
  above = λ x y lx ly z. names_within d.joined x y lx ly (from_byte (p * 64) maps x ∙ z ∙ sym (from_byte (p * 64) maps y));
  inside = d.grown.sound (kept_at maps p)
      (record {
        each = λ z lz. sym (i.canonical.named z lz) ∙ ap (kept_at maps p) (sym (from_byte (p * 64) maps z));
      })
      (identity_within n s.map (kept_at maps p) (λ x l. e.own x (omega (arith, i.most))));
  queued = λ b l lost. elim (d.grown.pushed b l (e.own b (omega (arith, i.most)))) [ inl z ↦ absurd (lost z) | inr q ↦ q ];
}

module _ {a : Algebra} {x y p v w : ℕ} {maps marks : List ℕ} (h : Growing a x y p v w maps marks) where
  -- the kept map is grown
  pub pair_grown : {r mb sb mb' qb' size' : ℕ} {f q f' : ℕ → ℕ} {maps' marks' : List ℕ} → Rebuilt a.size (kept_at maps p) (record { map = f; map_bytes = mb'; queue = q; queue_bytes = qb'; size = size' })
      → Worked a v w f maps' marks' mb f' r sb → PairGrown a x y v w maps' marks' mb f' r
  pair_grown i work =
      let d = work.closed in
      let lx : x < a.size = omega (arith, h.less, h.below) in
      record {
        keeping = work.keeping;
        map_room = work.map_room;
        pair = raised_kept h.accepted lx h.below (start_kept h.accepted lx h.below h.pair i) d.raised;
        whole = d.whole;
        stopped = d.stopped;
      }

  -- and written to its place
  pub principal_grown : {k r mb : ℕ} {m maps₁ marks₁ maps' marks' : List ℕ} → PairGrown a x y v w maps₁ marks₁ mb (byte m) r → k ≡ mark_of (eqb r 0)
      → Stored p k m maps₁ marks₁ maps' marks' → PrincipalHere a x y v w maps' marks' p
  principal_grown {k} {r} {m = m} d mark z =
      let ok : WellFormed a = accepted_well_formed a h.accepted in
      let lv : v < 64 = omega (arith, ok.most, h.left) in
      let lw : w < 64 = omega (arith, ok.most, h.right) in
      let whole : k ≡ 2 → Compatible a (byte m) = λ two. d.whole (eqb-true r 0 (mark_whole (eqb r 0) (sym mark ∙ two))) in
      record {
        keeping = keeping_stored ok d.keeping h.less h.below h.place d.pair whole z;
        place = h.place;
        pair = stored_kept ok d.keeping h.less h.below h.place d.pair whole z;
        closed = elim (ℕ_discrete r 0) [
          | yes q ↦ inl (z.mark ∙ mark ∙ ap mark_of (eq-eqb r 0 q))
          | no q ↦ inr (z.map v lv ∙ d.stopped (omega (arith, q)) ∙ sym (z.map w lw))
        ];
      }

-- ---- the kept map will do

-- where the map holds v and w apart it is the least congruence that joins x and y
pub principal_closed : {a : Algebra} {x y v w p : ℕ} {maps marks : List ℕ} → x < y → y < a.size → PrincipalHere a x y v w maps marks p → (kept_at maps p v ≡ kept_at maps p w → ⊥)
    → Closed a (λ g. g x ≡ g y) (kept_at maps p)
principal_closed l k h apart = record {
  canonical = h.pair.canonical;
  compatible = elim h.closed [ inl two ↦ keeping_whole h.keeping l k h.place two | inr e ↦ absurd (apart e) ];
  good = h.pair.joined;
  least = h.pair.inside;
}

-- the same, read from its place on
pub principal_from : {a : Algebra} {x y v w p : ℕ} {maps marks : List ℕ} → Accepted a → x < y → y < a.size → PrincipalHere a x y v w maps marks p → (kept_at maps p v ≡ kept_at maps p w → ⊥)
    → Closed a (λ g. g x ≡ g y) (byte (from (p * 64) maps))
principal_from {a} {p = p} {maps} accepted l k h apart =
    let ok : WellFormed a = accepted_well_formed a accepted in
    let pair : PairKept a _ _ (byte (from (p * 64) maps)) = alike_kept ok (λ z lz. from_byte (p * 64) maps z) (omega arith) k h.pair in
    record {
      canonical = pair.canonical;
      compatible = alike_compatible ok (λ z lz. from_byte (p * 64) maps z) (principal_closed l k h apart).compatible;
      good = pair.joined;
      least = pair.inside;
    }
