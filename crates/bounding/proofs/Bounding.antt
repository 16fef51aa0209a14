-- Bounds of the search: one block is the first, a map that grows keeps its bound, a settled row tightens it (004, Lemma 10), a pair that it holds apart is refused, and
-- once it holds v and w apart it is what was looked for.
use Prim.Native.Nat.{ℕ, ◌+◌, ◌<◌}
use mathlib.Core.Logic.{inl, inr}
use mathlib.Core.Path.{◌≡◌, sym, ap, ◌∙◌}
use native.Mathlib.Decide.{dec_lt, ℕ_discrete}
use native.Mathlib.Omega.{arith}
use Rattle.kernel.specs.InnerKernel.{Canonical, Within, KeptPast}
use Rattle.algebra.specs.Algebra.{Algebra}
use Rattle.algebra.proofs.Accepted.{WellFormed}
use Rattle.translation.specs.InnerTranslations.{Compatible, Refined}
use Rattle.sweep.proofs.Images.{compatible_whole}
use Rattle.bounding.specs.InnerSettled.{KeepsBefore, Refused, Settled, Earliest}
use Rattle.bounding.specs.InnerBlocks.{TwoBlocks}
use Rattle.bounding.specs.InnerBounds.{Bound, Tightened}

-- e' is the meet of e and t
pub record Met (n : ℕ) (e t e' : ℕ → ℕ) : Type 0 where
  pub canonical : Canonical n e'
  pub left : Within n e' e
  pub right : Within n e' t
  pub greatest : (x y : ℕ) → x < n → y < n → e x ≡ e y → t x ≡ t y → e' x ≡ e' y
  pub rest : KeptPast n e e'

-- what f joins stays in one of the two blocks
pub two_within : {n v : ℕ} {f e : ℕ → ℕ} → TwoBlocks n v f e → Within n f e
two_within {v = v} {f} t x y lx ly p =
    elim (ℕ_discrete (f x) (f v)) [
      | yes s ↦ t.same x y lx ly s (sym p ∙ s)
      | no s ↦ t.rest x y lx ly s (λ q. s (p ∙ q))
    ]

module _ (a : Algebra) (v w : ℕ) where
  -- everything lies inside one block
  pub bound_start : WellFormed a → (f e : ℕ → ℕ) → ((x : ℕ) → x < a.size → e x ≡ 0) → Bound a v w f e
  bound_start ok f e z = record {
    canonical = record { below = λ x l. omega (arith, z x l); named = λ x l. z (e x) (omega (arith, z x l)) ∙ sym (z x l) };
    compatible = compatible_whole a ok e z;
    above = λ x y lx ly p. z x lx ∙ sym (z y ly);
    holds = λ g c k d x y lx ly p. z x lx ∙ sym (z y ly);
  }

  -- what is above a larger congruence is above the smaller one as well
  pub bound_up : {f f' e : ℕ → ℕ} → Within a.size f f' → Compatible a f' → ¬ (f' v ≡ f' w) → Bound a v w f e → Bound a v w f' e
  bound_up {f} {f'} up c d b = record {
    canonical = b.canonical;
    compatible = b.compatible;
    above = b.holds f' c up d;
    holds = λ g cg k. b.holds g cg (λ x y lx ly p. k x y lx ly (up x y lx ly p));
  }

  -- a pair that the bound holds apart is refused
  pub bound_refuses : {f e : ℕ → ℕ} (x y : ℕ) → x < a.size → y < a.size → Bound a v w f e → ¬ (e x ≡ e y) → Refused a v w f x y
  bound_refuses x y lx ly b d g c k p = elim (ℕ_discrete (g v) (g w)) [ yes q ↦ q | no q ↦ absurd (d (b.holds g c k q x y lx ly p)) ]

  -- once every pair with x is settled, the block of x is final: what may still be found lies inside that block and the rest
  module _ (x : ℕ) (lx : x < a.size) (f : ℕ → ℕ) (s : Settled a v w (x + 1) (x + 2) f) where
    block_final : (g : ℕ → ℕ) → Compatible a g → Within a.size f g → ¬ (g v ≡ g w) → (q : ℕ) → q < a.size → g x ≡ g q → f q ≡ f x
    block_final g c k d q lq p =
        let keeps : (i j : ℕ) → KeepsBefore a.size f g i j = λ i j u z l o b e. k u z (omega arith) o e in
        elim (ℕ_discrete (f q) (f x)) [
          | yes e ↦ e
          | no e ↦ elim (dec_lt x q) [
            | yes l ↦ absurd (d (s.refused x q l lq (inl (omega arith)) (λ u. e (sym u)) g c (keeps x q) p))
            | no l ↦ elim (dec_lt q x) [
              | yes i ↦ absurd (d (s.refused q x i lx (inl (omega arith)) e g c (keeps q x) (sym p)))
              | no i ↦ ap f (omega arith)
            ]
          ]
        ]

    inside_two : (t : ℕ → ℕ) → TwoBlocks a.size x f t → (g : ℕ → ℕ) → Compatible a g → Within a.size f g → ¬ (g v ≡ g w) → Within a.size g t
    inside_two t two g c k d p q lp lq u = elim (ℕ_discrete (f p) (f x)) [
      | yes z ↦ two.same p q lp lq z (block_final g c k d q lq (sym (k p x lp lx z) ∙ u))
      | no z ↦ two.rest p q lp lq z (λ o. z (block_final g c k d p lp (sym (k q x lq lx o) ∙ sym u)))
    ]

    pub bound_row : (e t e' h : ℕ → ℕ) → TwoBlocks a.size x f t → Bound a v w f e → Met a.size e t e' → Refined a e' h → KeptPast a.size e' h
        → v < a.size → w < a.size → Tightened a v w x f e h
    bound_row e t e' h two b m r past lv lw = record {
      bound = record {
        canonical = r.canonical;
        compatible = r.compatible;
        above = r.greatest f s.compatible (λ p q lp lq u. m.greatest p q lp lq (b.above p q lp lq u) (two_within two p q lp lq u));
        holds = λ g c k d. r.greatest g c (λ p q lp lq u. m.greatest p q lp lq (b.holds g c k d p q lp lq u) (inside_two t two g c k d p q lp lq u));
      };
      apart = λ i q. two.apart v w lv lw (ap f (sym i)) (λ z. s.apart (ap f (sym i) ∙ sym z)) (m.right v w lv lw (r.within v w lv lw q));
      rest = λ z l. past z l ∙ m.rest z l;
    }

  -- the bound holds v and w apart
  pub bound_end : (r : ℕ) (f e : ℕ → ℕ) → Settled a v w r (r + 1) f → Bound a v w f e → ¬ (e v ≡ e w) → Earliest a v w e
  bound_end r f e s b d = record {
    canonical = b.canonical;
    compatible = b.compatible;
    apart = d;
    first = λ g c n x y l k to from u.
        elim (dec_lt x r) [
          | yes o ↦ elim (ℕ_discrete (f x) (f y)) [
            | yes z ↦ b.above x y (omega arith) k z
            | no z ↦ absurd (n (s.refused x y l k (inl o) z g c (λ p q lp lq i j. to p q lp lq i (b.above p q (omega arith) lq j)) u))
          ]
          | no o ↦
              let up : Within a.size f g = s.own g c (λ p q lp lq i j. elim i [
                | inl z ↦ to p q lp lq (inl (omega arith)) (b.above p q (omega arith) lq j)
                | inr z ↦ absurd (omega (arith, z.0, z.1))
              ]) in
              b.holds g c up n x y (omega arith) k u
        ];
  }
