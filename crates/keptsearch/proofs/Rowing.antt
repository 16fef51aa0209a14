-- A row joined from kept pairs: it begins at f, grows by a congruence of a pair of the row, tries pairs, and settles the row where it holds v and w apart.
use Prim.Native.Nat.{ℕ, ◌+◌, ◌≤◌, ◌<◌}
use mathlib.Core.Logic.{◌⊎◌, inl, inr}
use mathlib.Core.Path.{◌≡◌, sym, ap, ◌∙◌}
use native.Mathlib.Decide.{dec_lt, ℕ_discrete}
use native.Mathlib.Omega.{arith}
use Rattle.kernel.specs.InnerKernel.{Within}
use Rattle.algebra.specs.Algebra.{Algebra}
use Rattle.algebra.proofs.Accepted.{WellFormed}
use Rattle.translation.specs.InnerTranslations.{Compatible, Closed}
use Rattle.keeping.proofs.Closings.{names_within, within_names, least_compatible}
use Rattle.bounding.specs.InnerSettled.{KeepsBefore, Settled}
use Rattle.keptsearch.specs.InnerRows.{AlwaysJoins, RowJoined, WithKept}

-- f joined with the least congruence that joins x and y is the least congruence above f that does
pub with_closed : {a : Algebra} {k x y : ℕ} {f g g' : ℕ → ℕ} → WellFormed a → x < a.size → y < a.size → Compatible a g → Closed a (λ h. h x ≡ h y) f → WithKept a.size k f g g'
    → Closed a (λ h. Within a.size g h × (h x ≡ h y)) g'
with_closed {x = x} {y} ok lx ly cg c j = record {
  canonical = j.full.canonical;
  compatible = least_compatible ok cg c.compatible j.within (names_within j.joined) (λ h wg wf. j.least h (within_names c.canonical wf) wg);
  good = (j.within, names_within j.joined x y lx ly c.good);
  least = λ h ch above. j.least h (within_names c.canonical (c.least h ch above.1)) above.0;
}

module _ (a : Algebra) (v w x : ℕ) where
  -- nothing is joined yet
  pub joined_start : {f : ℕ → ℕ} → Settled a v w x (x + 1) f → RowJoined a v w x (x + 1) f f
  joined_start s = record {
    canonical = s.canonical;
    compatible = s.compatible;
    above = λ p q lp lq e. e;
    own = λ g c up h. up;
    tried = λ d z l k. absurd (omega arith);
  }

  module _ {y : ℕ} {f e : ℕ → ℕ} (r : RowJoined a v w x y f e) where
    -- the least congruence that joins x and z is joined
    pub joined_grow : {k z : ℕ} {c e' : ℕ → ℕ} → WellFormed a → v < a.size → w < a.size → x < z → z < a.size → y ≤ a.size → Closed a (λ h. h x ≡ h z) c
        → WithKept a.size k c e e' → RowJoined a v w x y f e'
    joined_grow {z = z} {e' = e'} ok lv lw l lz most c j =
        let d : Closed a (λ h. Within a.size e h × (h x ≡ h z)) e' = with_closed ok (omega arith) lz r.compatible c j in
        record {
          canonical = d.canonical;
          compatible = d.compatible;
          above = λ p q lp lq i. j.within p q lp lq (r.above p q lp lq i);
          own = λ g cg up h. d.least g cg (
            r.own g cg up (λ u lu ku i. h u lu ku (j.within x u (omega arith) ku i)),
            h z l lz d.good.1,
          );
          tried = λ apart u lu ku name. elim (r.tried (λ i. apart (j.within v w lv lw i)) u lu ku name) [
            | inl i ↦ inl (j.within x u (omega arith) (omega arith) i)
            | inr i ↦ inr i
          ];
        }

    -- the pair (x, y) is tried: joined, or it cannot be
    pub joined_next : (f y ≡ y → (e x ≡ e y) ⊎ AlwaysJoins a v w x y) → RowJoined a v w x (y + 1) f e
    joined_next t = record {
      canonical = r.canonical;
      compatible = r.compatible;
      above = r.above;
      own = r.own;
      tried = λ apart z l k name. elim (dec_lt z y) [
        | yes h ↦ r.tried apart z l h name
        | no h ↦ let i : z ≡ y = omega arith in rw (sym i) at t name
      ];
    }

  -- the whole row holds v and w apart: it is what the pairs one by one give
  pub joined_settled : {f e : ℕ → ℕ} → x < a.size → f x ≡ x → Settled a v w x (x + 1) f → RowJoined a v w x a.size f e → ¬ (e v ≡ e w) → Settled a v w (x + 1) (x + 2) e
  joined_settled {f} {e} lx name s r apart =
      record {
        canonical = r.canonical;
        compatible = r.compatible;
        apart = apart;
        own = λ g c k. r.own g c (above g c (λ p q l j o. k p q l j (inl (omega arith)))) (λ z l j. k x z l j (inl (omega arith)));
        refused = λ p q l j b n g c k h. elim (dec_lt p x) [
          | yes o ↦ s.refused p q l j (inl o) (λ i. n (r.above p q (omega arith) j i)) g c (λ i m li lm before u. k i m li lm before (r.above i m (omega arith) lm u)) h
          | no o ↦ elim b [
            | inl i ↦ let z : p ≡ x = omega arith in last q (rw z at l) j (rw z at n) g c (rw z at k) (rw z at h)
            | inr i ↦ absurd (omega (arith, i.0, i.1, l))
          ]
        ];
      }
    where
      -- what keeps the pairs of e before row x lies above f
      above : (g : ℕ → ℕ) → Compatible a g → ((p q : ℕ) → p < q → q < a.size → p < x → e p ≡ e q → g p ≡ g q) → Within a.size f g
      above g c k = s.own g c (λ p q l j b i. elim b [
        | inl o ↦ k p q l j o (r.above p q (omega arith) j i)
        | inr o ↦ absurd (omega (arith, o.0, o.1, l))
      ])

      last : (q : ℕ) → x < q → q < a.size → ¬ (e x ≡ e q) → (g : ℕ → ℕ) → Compatible a g → KeepsBefore a.size e g x q → g x ≡ g q → g v ≡ g w
      last q l j n g c k h =
          let up : Within a.size f g = above g c (λ p u lp lu o. k p u lp lu (inl o)) in
          let small : f q ≤ q = s.canonical.below q j in
          let own : f (f q) ≡ f q = s.canonical.named q j in
          let same : g (f q) ≡ g q = up (f q) q (omega arith) j own in
          let held : e (f q) ≡ e q = r.above (f q) q (omega arith) j own in
          elim (dec_lt x (f q)) [
            | yes o ↦ elim (r.tried apart (f q) o (omega arith) own) [
              | inl i ↦ absurd (n (i ∙ held))
              | inr i ↦ i g c (h ∙ sym same)
            ]
            | no o ↦ elim (ℕ_discrete (f q) x) [
              | yes i ↦ absurd (n (ap e (sym i) ∙ held))
              | no i ↦ s.refused (f q) x (omega arith) lx (inl (omega arith)) (λ u. i (sym own ∙ u ∙ name)) g c (λ p u lp lu before z. up p u (omega arith) lu z) (same ∙ sym h)
            ]
          ]
