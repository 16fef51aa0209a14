-- The laws of what is kept: maps that are alike are kept alike, what a pass makes is kept, and the invariant of the two slices is started, kept and read.
use Prim.Native.Nat.{ℕ, ◌+◌, ◌*◌, ◌≤◌, ◌<◌}
use mathlib.Core.Bool.{Bool, true, false}
use mathlib.Core.List.{List, ◌∷◌, ◌++◌}
use mathlib.Core.Path.{◌≡◌, refl, sym, ap, subst, ◌∙◌}
use native.Mathlib.Decide.{ℕ_discrete}
use native.Mathlib.Omega.{arith}
use lib.Dec.{eqb}
use lib.ListN.{length, take}
use Rattle.std.proofs.lemmas.List.{get_or-take}
use Rattle.std.proofs.lemmas.Grind.{common_steps}
use borrow.Author.Tests.{eqb-true}
use Rattle.equivalence.specs.Equivalence.{byte}
use Rattle.kernel.specs.InnerKernel.{Canonical, Within, Listed}
use Rattle.kernel.proofs.Kernels.{identity_canonical, identity_within, names_identity}
use Rattle.kernel.proofs.Names.{names_most}
use Rattle.algebra.specs.Accepted.{Accepted}
use Rattle.algebra.specs.Algebra.{Algebra, algebra_of}
use Rattle.algebra.proofs.Accepted.{WellFormed, accepted_well_formed}
use Rattle.translation.specs.InnerTranslations.{result, Compatible}
use Rattle.translation.proofs.Translations.{result_below}
use Rattle.sweep.specs.InnerContexts.{OperationsIn, Contexts}
use Rattle.sweep.specs.InnerQueue.{QueueState, Padded, Ready, Grown}
use Rattle.sweep.specs.InnerSweeps.{Swept}
use Rattle.sweep.proofs.Images.{images_kept, compatible_whole, compatible_images, all_map}
use Rattle.sweep.proofs.Sweeps.{one_block}
use Rattle.keeping.specs.InnerKeeping.{pair_place, ImagesJoined, Fresh, NothingJoined, PassStarted, PairKept, PairMade, kept_at, Keeping, mark_of, PlaceOf, Stored, KeptHere}
use Rattle.keeping.proofs.PairPlaces.{place_small, place_once}
use Rattle.keeping.proofs.Storing.{from, from_long, from_byte}

-- ---- maps above others, and maps alike

-- images once joined stay joined
pub joined_images : {a : Algebra} → WellFormed a → {x y : ℕ} {f f' : ℕ → ℕ} → Within a.size f f' → ImagesJoined a x y f → ImagesJoined a x y f'
joined_images {a} ok {x} {y} w h = record { each = λ j l. images_kept a ok j (λ c. c < a.size) x y w (h.each j l) }

module _ {a : Algebra} (ok : WellFormed a) {f f' : ℕ → ℕ} (same : (z : ℕ) → z < 64 → f' z ≡ f z) where
  alike : (z : ℕ) → z < a.size → f' z ≡ f z
  alike z l = same z (omega (arith, ok.most))

  alike_within : Within a.size f f'
  alike_within x y lx ly p = alike x lx ∙ p ∙ sym (alike y ly)

  pub alike_compatible : Compatible a f → Compatible a f'
  alike_compatible h x y lx ly e j lj pre post s p q =
      alike_within (result a j (pre ++ (x ∷ post))) (result a j (pre ++ (y ∷ post))) (result_below a ok j (pre ++ (x ∷ post))) (result_below a ok j (pre ++ (y ∷ post)))
      (h x y lx ly (sym (alike x lx) ∙ e ∙ alike y ly) j lj pre post s p q)

  pub alike_kept : {x y : ℕ} → x < a.size → y < a.size → PairKept a x y f → PairKept a x y f'
  alike_kept {x} {y} lx ly k = record {
    canonical = record {
      below = λ z l. omega (arith, alike z l, k.canonical.below z l);
      named = λ z l. ap f' (alike z l) ∙ alike (f z) (omega (arith, k.canonical.below z l)) ∙ k.canonical.named z l ∙ sym (alike z l);
    };
    joined = alike_within x y lx ly k.joined;
    images = joined_images ok alike_within k.images;
    inside = λ g h e u v lu lv p. k.inside g h e u v lu lv (sym (alike u lu) ∙ p ∙ alike v lv);
    padded = λ z l h. same z h ∙ k.padded z l h;
  }

-- ---- a pass

-- a map with an empty queue
pub empty_ready : {n : ℕ} {s : QueueState} → n ≤ 64 → s.map_bytes ≡ 64 → s.queue_bytes ≡ 64 → s.size ≡ 0 → Canonical n s.map → Padded n s.map → Ready n s
empty_ready {n} {s} most long room none c p = record {
  most = most;
  map_room = long;
  queue_room = room;
  padded = p;
  room = omega (arith, names_most n s.map);
  queued = record {
    canonical = c;
    small = λ k l. absurd (omega arith);
    lost = λ k l. absurd (omega arith);
    once = λ i k l h. absurd (omega arith);
  };
}

-- nothing is joined yet
pub nothing_ready : {n : ℕ} {s : QueueState} → n ≤ 64 → NothingJoined s → Ready n s
nothing_ready {n} {s} most i =
    let own = i.fresh.own in
    empty_ready most i.fresh.room i.queue_room i.none (identity_canonical n s.map (λ x l. own x (omega arith))) (λ x l h. own x h)

-- x and y joined, above bytes that name themselves
pub pass_started : {n x y : ℕ} {s t : QueueState} → Grown n (λ h. h x ≡ h y) s t → t.map x ≡ t.map y → Fresh s.map_bytes s.map → s.size ≡ 0 → n ≤ 64 → PassStarted n x y t
pass_started {n} {s = s} d e i none most = record {
  ready = d.ready;
  joined = e;
  inside = λ h z. d.sound h z (identity_within n s.map h (λ x l. i.own x (omega arith)));
  lost = omega (arith, d.blocks, none, names_identity n s.map (λ x l. i.own x (omega arith)));
}

-- the first n of bytes that name themselves
module _ {n : ℕ} (most : n ≤ 64) (live : List ℕ) (e : Fresh (length live) (byte live)) where
  first_long : length (take n live) ≡ n
  first_long = let l : n ≤ length live = omega (arith, e.room) in grind (arith, common_steps)

  first_own : (i : ℕ) → i < n → byte (take n live) i ≡ i
  first_own i l = get_or-take n live i 0 l ∙ e.own i (omega arith)

  first_listed : (c : ℕ) → c < n → Listed (take n live) (length (take n live)) c
  first_listed c l = (c, (omega (arith, first_long), first_own c l))

  first_below : (c : ℕ) → Listed (take n live) (length (take n live)) c → c < n
  first_below c k = omega (arith, first_long, k.1.0, k.1.1, first_own k.0 (omega (arith, first_long, k.1.0)))

-- all elements listed
pub all_contexts : {n : ℕ} (arities : List ℕ) {cells : List ℕ} (live : List ℕ) → Accepted (algebra_of n arities cells) → Fresh (length live) (byte live) → Contexts n cells (take n live) (length (take n live))
all_contexts {n} arities {cells} live h e =
    let ok = accepted_well_formed (algebra_of n arities cells) h in
    record {
      cells_most = omega (arith, ok.filled, ok.room);
      cells_below = ok.below;
      live_room = omega arith;
      live_below = λ i l. omega (arith, first_long ok.most live e, first_own ok.most live e i (omega (arith, first_long ok.most live e)));
    }

-- what a pass with all elements as contexts leaves of x and y joined
pub pass_made : {a : Algebra} {x y l mb qb r : ℕ} {f q : ℕ → ℕ} (live : List ℕ) {refused : List ℕ} {t : QueueState}
    → Swept a.size refused (record { limit = l; v = 0; w = 0 }) (OperationsIn a (length a.arities) (Listed (take a.size live) (length (take a.size live))) x y) t
    (record { map = f; map_bytes = mb; queue = q; queue_bytes = qb; size = r })
    → PassStarted a.size x y t → Fresh (length live) (byte live) → Accepted a → x < y → y < a.size → PairMade a x y f r
pass_made {a} {x} {y} live p i fresh accepted less ly = record {
  kept = record {
    canonical = p.sweeping.ready.queued.canonical;
    joined = p.grown.within x y lx ly i.joined;
    images = record {
      each = λ j lj pre post z u v. (p.done (λ j. j.two refl)).each j lj pre post z (all_map (first_listed ok.most live fresh) pre u) (all_map (first_listed ok.most live fresh) post v);
    };
    inside = λ g c e. p.grown.sound g (compatible_images a (first_below ok.most live fresh) g c x y lx ly e, λ p q lp lq k i. refl) (i.inside g e);
    padded = p.sweeping.ready.padded;
  };
  lost = omega (arith, p.grown.blocks, i.lost);
}
  where
    lx : x < a.size
    lx = omega arith

    ok : WellFormed a
    ok = accepted_well_formed a accepted

-- ---- marks

pub mark_some : (b : Bool) → mark_of b ≡ 0 → ⊥
mark_some true e = omega arith
mark_some false e = omega arith

pub mark_whole : (b : Bool) → mark_of b ≡ 2 → b ≡ true
mark_whole true e = refl
mark_whole false e = absurd (omega arith)

-- ---- the invariant

-- nothing is kept
pub keeping_none : {a : Algebra} {maps marks : List ℕ} → a.size ≤ 64 → length maps ≡ 129024 → length marks ≡ 2016 → ((p : ℕ) → p < 2016 → byte marks p ≡ 0) → Keeping a maps marks
keeping_none {a} most m k z = record {
  most = most;
  maps_room = m;
  marks_room = k;
  kept = λ x y l h some. absurd (some (z (pair_place x y) (place_small x y l (omega arith))));
  whole = λ x y l h e. absurd (omega (arith, z (pair_place x y) (place_small x y l (omega arith))));
}

-- what is kept at a place that is marked
pub keeping_at : {a : Algebra} {maps marks : List ℕ} {x y p : ℕ} → Keeping a maps marks → x < y → y < a.size → PlaceOf x y p → (byte marks p ≡ 0 → ⊥) → PairKept a x y (kept_at maps p)
keeping_at {a} {maps} {marks} {x} {y} k l h e some =
    subst (λ (q : ℕ). PairKept a x y (kept_at maps q)) (sym e.same) (k.kept x y l h (subst (λ (q : ℕ). byte marks q ≡ 0 → ⊥) e.same some))

pub keeping_whole : {a : Algebra} {maps marks : List ℕ} {x y p : ℕ} → Keeping a maps marks → x < y → y < a.size → PlaceOf x y p → byte marks p ≡ 2 → Compatible a (kept_at maps p)
keeping_whole {a} {maps} {marks} {x} {y} k l h e two =
    subst (λ (q : ℕ). Compatible a (kept_at maps q)) (sym e.same) (k.whole x y l h (subst (λ (q : ℕ). byte marks q ≡ 2) e.same two))

-- one place is written
module _ {a : Algebra} (ok : WellFormed a) {x y p k : ℕ} {m maps marks maps' marks' : List ℕ} (s : Keeping a maps marks) (l : x < y) (h : y < a.size) (e : PlaceOf x y p)
    (pair : PairKept a x y (byte m)) (whole : k ≡ 2 → Compatible a (byte m)) (d : Stored p k m maps marks maps' marks') where
  small : y < 64
  small = omega (arith, ok.most)

  pub stored_kept : PairKept a x y (kept_at maps' p)
  stored_kept = alike_kept ok d.map (omega arith) h pair

  pub stored_whole : k ≡ 2 → Compatible a (kept_at maps' p)
  stored_whole two = alike_compatible ok d.map (whole two)

  pub keeping_stored : Keeping a maps' marks'
  keeping_stored = record {
    most = s.most;
    maps_room = d.maps_long ∙ s.maps_room;
    marks_room = d.marks_long ∙ s.marks_room;
    kept = λ u v lu lv some.
        elim (ℕ_discrete (pair_place u v) p) [
          | yes q ↦
              let same = place_once l small lu (omega (arith, ok.most)) (q ∙ e.same) in
              subst (λ (r : ℕ). PairKept a u v (kept_at maps' r)) (sym q)
              (subst (λ (r : ℕ). PairKept a r v (kept_at maps' p)) (sym same.0) (subst (λ (r : ℕ). PairKept a x r (kept_at maps' p)) (sym same.1) stored_kept))
          | no q ↦
              let old : PairKept a u v (kept_at maps (pair_place u v)) = s.kept u v lu lv (λ z. some (d.other_marks (pair_place u v) q ∙ z)) in
              alike_kept ok (λ z lz. d.other_maps (pair_place u v) z (place_small u v lu (omega (arith, ok.most))) q lz) (omega arith) lv old
        ];
    whole = λ u v lu lv two.
        elim (ℕ_discrete (pair_place u v) p) [
          | yes q ↦ subst (λ (r : ℕ). Compatible a (kept_at maps' r)) (sym q) (stored_whole (sym d.mark ∙ sym (ap (byte marks') q) ∙ two))
          | no q ↦
              alike_compatible ok (λ z lz. d.other_maps (pair_place u v) z (place_small u v lu (omega (arith, ok.most))) q lz)
              (s.whole u v lu lv (sym (d.other_marks (pair_place u v) q) ∙ two))
        ];
  }

-- after so many merges one block is left
pub made_whole : {a : Algebra} {x y r : ℕ} {f : ℕ → ℕ} → Accepted a → PairMade a x y f r → eqb (r + 1) a.size ≡ true → Compatible a f
made_whole {a} {r = r} {f} h k t = compatible_whole a (accepted_well_formed a h) f (one_block k.kept.canonical (omega (arith, k.lost, eqb-true (r + 1) a.size t)))

-- the map of a pass is written where there was nothing
pub kept_made : {a : Algebra} {x y p r k : ℕ} {m maps marks maps' marks' : List ℕ} → Accepted a → Keeping a maps marks → x < y → y < a.size → PlaceOf x y p → byte marks p ≡ 0
    → PairMade a x y (byte m) r → k ≡ mark_of (eqb (r + 1) a.size) → Stored p k m maps marks maps' marks' → KeptHere a x y marks maps' marks' p
kept_made {a} {r = r} {marks = marks} ok s l h e none made mark d = record {
  keeping = keeping_stored (accepted_well_formed a ok) s l h e made.kept (λ two. made_whole ok made (mark_whole (eqb (r + 1) a.size) (sym mark ∙ two))) d;
  place = e;
  some = λ z. mark_some (eqb (r + 1) a.size) (sym mark ∙ sym d.mark ∙ z);
  older = λ q some. d.other_marks q (λ z. some (ap (byte marks) z ∙ none));
}

-- a kept map, read from its place on
pub kept_room : {a : Algebra} {x y p : ℕ} {maps marks : List ℕ} → Keeping a maps marks → PlaceOf x y p → a.size ≤ length (from (p * 64) maps)
kept_room {p = p} {maps} k e = omega (arith, from_long (p * 64) maps, k.most, k.maps_room, e.small)

pub kept_from : {a : Algebra} {x y p : ℕ} {old maps marks : List ℕ} → Accepted a → x < y → y < a.size → KeptHere a x y old maps marks p → PairKept a x y (byte (from (p * 64) maps))
kept_from {a} {p = p} {maps = maps} ok l h k =
    alike_kept (accepted_well_formed a ok) (λ z lz. from_byte (p * 64) maps z) (omega arith) h (keeping_at k.keeping l h k.place k.some)
