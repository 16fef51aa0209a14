-- The laws of the test by kept pairs: a map that lies above a congruence f is one where it joins the images of neighbours among elements that meet every block of f.
use Prim.Native.Nat.{ℕ, ◌+◌, ◌*◌, ◌≤◌, ◌<◌}
use mathlib.Core.Bool.{Bool, true}
use mathlib.Core.List.{List}
use mathlib.Core.Path.{◌≡◌, refl, sym, ap, subst, ◌∙◌}
use native.Mathlib.Decide.{ℕ_discrete}
use native.Mathlib.Omega.{arith}
use lib.ListN.{set, length-set}
use lib.Seq.{get_or-set_same, get_or-set_other}
use Rattle.equivalence.specs.Equivalence.{byte}
use Rattle.kernel.specs.InnerKernel.{Canonical, Within, Listed}
use Rattle.algebra.specs.Algebra.{Algebra}
use Rattle.algebra.proofs.Accepted.{WellFormed, accepted_well_formed}
use Rattle.translation.specs.InnerTranslations.{Compatible}
use Rattle.sweep.proofs.Images.{below_all, compatible_images}
use Rattle.keeping.specs.InnerKeeping.{ImagesJoined, KeptHere}
use Rattle.keeping.specs.InnerPrincipal.{JoinsNames}
use Rattle.keeping.specs.InnerInside.{NamesInside, PairAsked, PairInside, NextInside, AllAsked, Meets, Chained, Testing, Proved}
use Rattle.keeping.proofs.Storing.{from}
use Rattle.keeping.proofs.Keepings.{joined_images, kept_from}
use Rattle.keeping.proofs.Closings.{images_same, images_swap, images_chain, names_within}

-- ---- one map inside another

pub names_more : {i : ℕ} {f g : ℕ → ℕ} → JoinsNames i f g → g i ≡ g (f i) → JoinsNames (i + 1) f g
names_more {i} {f} {g} h e = record {
  each = λ z l. elim (ℕ_discrete z i) [ yes k ↦ subst (λ (z : ℕ). g z ≡ g (f z)) (sym k) e | no k ↦ h.each z (omega (arith, k)) ];
}

pub names_none : {f g : ℕ → ℕ} → JoinsNames 0 f g
names_none = record { each = λ z l. absurd (omega arith) }

-- ---- two elements

pub pair_inside : {a : Algebra} {x y p k : ℕ} {g : ℕ → ℕ} {maps₀ marks₀ old maps marks : List ℕ} {r : Bool} → PairAsked a x y maps₀ marks₀ k → KeptHere a x y old maps marks p
    → NamesInside a.size (byte (from (p * 64) maps)) g r → PairInside a x y g maps marks r
pair_inside {a} i h d = record {
  keeping = h.keeping;
  says = λ t. joined_images (accepted_well_formed a i.accepted) (names_within (d.says t)) (kept_from i.accepted i.less i.below h).images;
}

-- ---- all listed elements

module _ {a : Algebra} {list maps marks last : List ℕ} {i count k : ℕ} {g : ℕ → ℕ} (t : Testing a list i g maps marks last) (asked : AllAsked a list count k g) (less : i < count) where
  element : byte list i < a.size
  element = asked.elements.below i less

  block_small : g (byte list i) < 64
  block_small = omega (arith, element, asked.elements.canonical.below (byte list i) element, t.keeping.most)

  -- one more element, joined with the last of its block
  seen_more : {maps' marks' : List ℕ} → NextInside a (byte last (g (byte list i))) (byte list i) g maps' marks' true → Testing a list (i + 1) g maps' marks' (set last (g (byte list i)) (byte list i))
  seen_more d = record {
    keeping = d.keeping;
    room = length-set last (g y) y ∙ t.room;
    chained = λ k l. elim (ℕ_discrete k i) [
      | yes z ↦ subst (λ (z : ℕ). Chained a g last' (byte list z)) (sym z) (record {
        some = omega (arith, here, element);
        images = subst (λ (z : ℕ). ImagesJoined a z y g) (sym here) images_same;
      })
      | no z ↦ again (byte list k) (t.chained k (omega (arith, z)))
    ];
  }
    where
      y : ℕ
      y = byte list i

      last' : List ℕ
      last' = set last (g (byte list i)) (byte list i)

      here : byte last' (g y) ≡ y
      here = get_or-set_same last (g y) y 0 (omega (arith, block_small, t.room))

      again : (u : ℕ) → Chained a g last u → Chained a g last' u
      again u c = elim (ℕ_discrete (g u) (g y)) [
        | yes z ↦ record {
          some = omega (arith, ap (byte last') z, here, element);
          images = subst (λ (v : ℕ). ImagesJoined a v u g) (sym (ap (byte last') z ∙ here))
              (images_chain (images_swap (d.says refl (omega (arith, ap (byte last) z, c.some)))) (subst (λ (v : ℕ). ImagesJoined a v u g) (ap (byte last) z) c.images));
        }
        | no z ↦
            let o : byte last' (g u) ≡ byte last (g u) = get_or-set_other last (g y) (g u) y 0 z in
            record { some = omega (arith, o, c.some); images = subst (λ (v : ℕ). ImagesJoined a v u g) (sym o) c.images }
      ]

-- an element and a listed one of its block in f
listed_images : {a : Algebra} {f g : ℕ → ℕ} → WellFormed a → Compatible a f → Within a.size f g → (x y : ℕ) → x < a.size → y < a.size → f x ≡ f y → ImagesJoined a x y g
listed_images {a} {f} ok c w x y lx ly e = joined_images ok w (compatible_images a (λ z l. l) f c x y lx ly e)

-- all are seen
pub proved_yes : {a : Algebra} {list maps marks last : List ℕ} {i count k : ℕ} {g : ℕ → ℕ} → Testing a list i g maps marks last → AllAsked a list count k g → count ≤ i
    → Proved a list count g maps marks true
proved_yes {a} {list} {last = last} {g = g} t asked l = record {
  keeping = t.keeping;
  compatible = λ r f c w meets x y lx ly same j lj pre post s p q.
      let ok : WellFormed a = accepted_well_formed a asked.accepted in
      let mx = meets x lx in
      let my = meets y ly in
      let u : ℕ = byte list mx.0 in
      let v : ℕ = byte list my.0 in
      let lu : u < a.size = asked.elements.below mx.0 mx.1.0 in
      let lv : v < a.size = asked.elements.below my.0 my.1.0 in
      let cu : Chained a g last u = t.chained mx.0 (omega (arith, mx.1.0)) in
      let cv : Chained a g last v = t.chained my.0 (omega (arith, my.1.0)) in
      let block : g u ≡ g v = w u x lu lx mx.1.1 ∙ same ∙ sym (w v y lv ly my.1.1) in
      let middle : ImagesJoined a u v g = images_chain (images_swap cu.images) (subst (λ (z : ℕ). ImagesJoined a z v g) (sym (ap (byte last) block)) cv.images) in
      (images_chain (images_swap (listed_images ok c w u x lu lx mx.1.1)) (images_chain middle (listed_images ok c w v y lv ly my.1.1))
      ).each j lj pre post s (below_all a.size pre p) (below_all a.size post q);
}

-- where the names of a canonical f are listed they meet every block
pub names_meet : {n count : ℕ} {f : ℕ → ℕ} (list : List ℕ) → Canonical n f → ((x : ℕ) → x < n → Listed list count (f x)) → Meets n f list count
names_meet {f = f} list c h x l = let m = h x l in (m.0, (m.1.0, ap f m.1.1 ∙ c.named x l))
