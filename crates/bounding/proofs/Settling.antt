-- The search's steps: it starts at the identity, and settles a pair (held, taken, passed, or skipped since one of its elements is no smallest member). How it ends is
-- shown in Bounding.
use Prim.Native.Nat.{ℕ, zero, suc, ◌+◌, ◌-◌, ◌≤◌, ◌<◌}
use mathlib.Core.Logic.{◌⊎◌, inl, inr}
use mathlib.Core.Path.{◌≡◌, refl, sym, subst, ◌∙◌}
use native.Mathlib.Decide.{dec_lt, ℕ_discrete}
use native.Mathlib.Omega.{arith}
use Rattle.kernel.specs.InnerKernel.{Within}
use Rattle.kernel.proofs.Kernels.{identity_canonical, identity_within}
use Rattle.algebra.specs.Algebra.{Algebra}
use Rattle.translation.specs.InnerTranslations.{Compatible, Closed}
use Rattle.bounding.specs.InnerSettled.{KeepsBefore, Before, Refused, Settled}

module _ (a : Algebra) (v w : ℕ) where
  pub settled_start : (f : ℕ → ℕ) → v < a.size → w < a.size → ¬ (v ≡ w) → ((x : ℕ) → x < a.size → f x ≡ x) → Compatible a f → Settled a v w 0 1 f
  settled_start f lv lw d e c =
      record {
        canonical = identity_canonical a.size f e;
        compatible = c;
        apart = λ h. d (sym (e v lv) ∙ h ∙ e w lw);
        own = λ g cg k. identity_within a.size f g e;
        refused = λ p q l k b. elim b [ inl o ↦ absurd (omega arith) | inr o ↦ absurd (omega (arith, o.0, o.1)) ];
      }

  module _ (x y : ℕ) (f : ℕ → ℕ) (s : Settled a v w x y f) (lx : x < y) (ly : y < a.size) where
    -- a pair before (x, y + 1) is before (x, y) or is (x, y)
    earlier : (p q : ℕ) → Before p q x (y + 1) → Before p q x y ⊎ ((p ≡ x) × (q ≡ y))
    earlier p q b = elim b [
      | inl o ↦ inl (inl o)
      | inr o ↦ elim (dec_lt q y) [ yes k ↦ inl (inr (o.0, k)) | no k ↦ inr (o.0, omega (arith, o.1)) ]
    ]

    later : (p q : ℕ) → Before p q x y → Before p q x (y + 1)
    later p q b = elim b [ inl o ↦ inl o | inr o ↦ inr (o.0, omega (arith, o.1)) ]

    -- f holds the pair already
    pub settled_held : f x ≡ f y → Settled a v w x (y + 1) f
    settled_held e =
        record {
          canonical = s.canonical;
          compatible = s.compatible;
          apart = s.apart;
          own = λ g c k. s.own g c (λ p q l j b h. k p q l j (later p q b) h);
          refused = λ p q l j b n. elim (earlier p q b) [
            | inl o ↦ s.refused p q l j o n
            | inr o ↦ absurd (n (rw (o.0, o.1) e))
          ];
        }

    -- the pair would join v and w
    pub settled_pass : Refused a v w f x y → Settled a v w x (y + 1) f
    settled_pass r =
        record {
          canonical = s.canonical;
          compatible = s.compatible;
          apart = s.apart;
          own = λ g c k. s.own g c (λ p q l j b h. k p q l j (later p q b) h);
          refused = λ p q l j b n g c k h. elim (earlier p q b) [
            | inl o ↦ s.refused p q l j o n g c k h
            | inr o ↦ r g c (s.own g c (λ i m li lm before e. k i m li lm (rw (o.0, o.1) before) e)) (rw (← o.0, ← o.1) h)
          ];
        }

    -- the pair is taken: f' is the least congruence above f that holds it
    pub settled_take : (f' : ℕ → ℕ) → Closed a (λ g. Within a.size f g × (g x ≡ g y)) f' → ¬ (f' v ≡ f' w) → Settled a v w x (y + 1) f'
    settled_take f' t n =
        let up : Within a.size f f' = t.good.0 in
        record {
          canonical = t.canonical;
          compatible = t.compatible;
          apart = n;
          own = λ g c k. t.least g c (
            s.own g c (λ p q l j b h. k p q l j (later p q b) (up p q (omega arith) j h)),
            k x y lx ly (inr (refl, omega arith)) t.good.1,
          );
          refused = λ p q l j b d g c k h. elim (earlier p q b) [
            | inl o ↦ s.refused p q l j o (λ e. d (up p q (omega arith) j e)) g c (λ i m li lm before e. k i m li lm before (up i m (omega arith) lm e)) h
            | inr o ↦ absurd (d (rw (o.0, o.1) t.good.1))
          ];
        }

    -- one of the two is no smallest member: the pair of their smallest members is settled, and stands for it
    pub settled_skip : ¬ ((f x ≡ x) × (f y ≡ y)) → Settled a v w x (y + 1) f
    settled_skip n = elim (ℕ_discrete (f x) (f y)) [
      | yes e ↦ settled_held e
      | no d ↦ settled_pass (λ g c k h.
          let cx : f x ≤ x = s.canonical.below x (omega arith) in
          let cy : f y ≤ y = s.canonical.below y ly in
          let rx : f (f x) ≡ f x = s.canonical.named x (omega arith) in
          let ry : f (f y) ≡ f y = s.canonical.named y ly in
          let gx : g x ≡ g (f x) = k x (f x) (omega arith) (omega arith) (sym rx) in
          let gy : g y ≡ g (f y) = k y (f y) ly (omega arith) (sym ry) in
          let keeps : (i j : ℕ) → KeepsBefore a.size f g i j = λ i j p q l o b e. k p q (omega arith) o e in
          elim (dec_lt (f x) (f y)) [
            | yes l ↦ s.refused (f x) (f y) l (omega arith)
                (elim (ℕ_discrete (f x) x) [ yes u ↦ inr (u, elim (ℕ_discrete (f y) y) [ yes z ↦ absurd (n (u, z)) | no z ↦ omega arith ]) | no u ↦ inl (omega arith) ])
                (λ e. d (sym rx ∙ e ∙ ry)) g c (keeps (f x) (f y)) (sym gx ∙ h ∙ gy)
            | no l ↦ s.refused (f y) (f x) (omega arith) (omega arith) (inl (omega arith))
                (λ e. d (sym rx ∙ sym e ∙ ry)) g c (keeps (f y) (f x)) (sym gy ∙ sym h ∙ gx)
          ])
    ]

  -- the end of a row
  pub settled_row : (x : ℕ) (f : ℕ → ℕ) → Settled a v w x a.size f → Settled a v w (x + 1) (x + 2) f
  settled_row x f s =
      let back : (p q : ℕ) → p < q → q < a.size → Before p q (x + 1) (x + 2) → Before p q x a.size =
      λ p q l k b. elim b [
        | inl o ↦ elim (dec_lt p x) [ yes i ↦ inl i | no i ↦ inr (omega arith, k) ]
        | inr o ↦ absurd (omega (arith, o.0, o.1))
      ] in
      let on : (p q : ℕ) → Before p q x a.size → Before p q (x + 1) (x + 2) =
      λ p q b. elim b [ inl o ↦ inl (omega arith) | inr o ↦ inl (omega (arith, o.0)) ] in
      record {
        canonical = s.canonical;
        compatible = s.compatible;
        apart = s.apart;
        own = λ g c k. s.own g c (λ p q l j b e. k p q l j (on p q b) e);
        refused = λ p q l j b n g c k h. s.refused p q l j (back p q l j b) n g c k h;
      }

  -- x is no smallest member: every pair of its row is skipped
  pub settled_skip_row : (x : ℕ) (f : ℕ → ℕ) → x < a.size → ¬ (f x ≡ x) → Settled a v w x (x + 1) f → Settled a v w (x + 1) (x + 2) f
  settled_skip_row x f l n s =
      settled_row x f (skips (a.size - (x + 1)) (x + 1) (omega arith) (omega arith) s)
    where
      skips : (d y : ℕ) → y + d ≡ a.size → x < y → Settled a v w x y f → Settled a v w x a.size f
      skips zero y e k t = subst (λ (z : ℕ). Settled a v w x z f) (omega arith) t
      skips (suc d) y e k t = skips d (y + 1) (omega arith) (omega arith) (settled_skip x y f t k (omega arith) (λ p. n p.0))

-- what is settled further holds what is settled so far: the pairs that are taken do not depend on what comes later
module _ (a : Algebra) (v w x y x' y' : ℕ) (f f' : ℕ → ℕ) (s : Settled a v w x y f) (t : Settled a v w x' y' f') (later : (p q : ℕ) → Before p q x y → Before p q x' y') where
  -- f and f' join the two, or neither does
  record Agree (p q : ℕ) : Type 0 where
    pub on : f p ≡ f q → f' p ≡ f' q
    pub back : f' p ≡ f' q → f p ≡ f q

  agree_next : (p q : ℕ) → p < q → q < a.size → Before p q x y → ((i j : ℕ) → i < j → j < a.size → Before i j p q → Agree i j) → Agree p q
  agree_next p q l k b before = record {
    on = λ e. elim (ℕ_discrete (f' p) (f' q)) [
      | yes h ↦ h
      | no d ↦ absurd (s.apart (t.refused p q l k (later p q b) d f s.compatible (λ i j li lj bb h. (before i j li lj bb).back h) e))
    ];
    back = λ e. elim (ℕ_discrete (f p) (f q)) [
      | yes h ↦ h
      | no d ↦ absurd (t.apart (s.refused p q l k b d f' t.compatible (λ i j li lj bb h. (before i j li lj bb).on h) e))
    ];
  }

  agree_row : (p : ℕ) → ((i j : ℕ) → i < p → i < j → j < a.size → Before i j x y → Agree i j) → (k q : ℕ) → q < k → p < q → q < a.size → Before p q x y → Agree p q
  agree_row p rows zero q l lq h b = absurd (omega arith)
  agree_row p rows (suc k) q l lq h b = agree_next p q lq h b (λ i j li lj bb. elim bb [
    | inl o ↦ rows i j o li lj (elim b [ inl u ↦ inl (omega arith) | inr u ↦ inl (omega (arith, u.0)) ])
    | inr o ↦
        let e : i ≡ p = o.0 in
        rw (sym e) at (agree_row p rows k j (omega (arith, o.1)) (omega (arith, li, e)) lj (elim b [ inl u ↦ inl u | inr u ↦ inr (u.0, omega (arith, o.1, u.1)) ]))
  ])

  agree_rows : (k p q : ℕ) → p < k → p < q → q < a.size → Before p q x y → Agree p q
  agree_rows zero p q l lq h b = absurd (omega arith)
  agree_rows (suc k) p q l lq h b = agree_row p (λ i j li lj hj bj. agree_rows k i j (omega arith) lj hj bj) (q + 1) q (omega arith) lq h b

  pub settled_grows : Within a.size f f'
  settled_grows = s.own f' t.compatible (λ p q l k b e. (agree_rows (p + 1) p q (omega arith) l k b).on e)
