-- A bound after a settled row, on slices: it is met with the block of x and the rest, and refined by the listed names.
use Prim.Native.Nat.{ℕ, ◌≤◌, ◌<◌}
use mathlib.Core.List.{List}
use mathlib.Core.Path.{◌≡◌, sym, ◌∙◌}
use native.Mathlib.Omega.{arith}
use lib.ListN.{length}
use Rattle.equivalence.specs.Equivalence.{byte, whole, meet}
use Rattle.equivalence.specs.Lent.{written}
use Rattle.equivalence.specs.declared.Pair.{Pair}
use Rattle.equivalence.proofs.Maps.{whole_map}
use Rattle.equivalence.proofs.Meets.{meet_map, meet_holds, of_meet}
use Rattle.equivalence.proofs.Writing.{written_old}
use Rattle.kernel.specs.InnerKernel.{Canonical, Within, KeptPast}
use Rattle.algebra.specs.Accepted.{Accepted}
use Rattle.algebra.specs.Algebra.{Algebra, algebra_of}
use Rattle.algebra.proofs.Accepted.{accepted_well_formed}
use Rattle.translation.specs.InnerTranslations.{Compatible, Refined}
use Rattle.refinement.specs.InnerSplitting.{Represented}
use Rattle.maplist.proofs.MapLists.{begins_written, begins_canonical, whole_at}
use Rattle.bounding.specs.InnerBlocks.{TwoBlocks}
use Rattle.bounding.specs.InnerBounds.{NamesAmong, RowSettled, BoundLent, Tightened}
use Rattle.bounding.proofs.Bounding.{Met, two_within, bound_start, bound_row}

-- one block is the first bound
pub bound_lent_start : {n : ℕ} {arities cells : List ℕ} {marked : Pair} {f : ℕ → ℕ} → Accepted (algebra_of n arities cells) → (lent up : List ℕ) → n ≤ length lent → length up ≡ length lent
    → up ≡ written (whole n) lent → BoundLent (algebra_of n arities cells) up marked f
bound_lent_start {n} {arities} {cells} {f = f} ok lent up l k e = record {
  room = omega arith;
  bound = bound_start (algebra_of n arities cells) _ _ (accepted_well_formed _ ok) f (byte up)
      (λ x lx. (begins_written (whole n) lent e (whole_map n)).same x lx ∙ whole_at n x lx);
}

pub whole_kept : (n : ℕ) (lent up : List ℕ) → n ≤ length lent → up ≡ written (whole n) lent → KeptPast n (byte lent) (byte up)
whole_kept n lent up l e x k = rw e (written_old (whole n) lent (omega (arith, (whole_map n).long)) x (omega (arith, (whole_map n).long)))

-- the meet that is written over a map
pub meet_met : {n : ℕ} (e t after : List ℕ) → n ≤ length e → after ≡ written (meet n e t) e → Met n (byte e) (byte t) (byte after)
meet_met {n} e t after room w =
    let b = begins_written (meet n e t) e w (meet_map n e t) in
    let from : (x y : ℕ) → x < n → y < n → byte after x ≡ byte after y → (byte e x ≡ byte e y) × (byte t x ≡ byte t y) =
    λ x y lx ly p. of_meet n e t x y lx ly (sym (b.same x lx) ∙ p ∙ b.same y ly) in
    record {
      canonical = begins_canonical b (meet_map n e t);
      left = λ x y lx ly p. (from x y lx ly p).0;
      right = λ x y lx ly p. (from x y lx ly p).1;
      greatest = λ x y lx ly p q. b.same x lx ∙ meet_holds n e t x y lx ly p q ∙ sym (b.same y ly);
      rest = λ x l. rw w (written_old (meet n e t) e (omega (arith, (meet_map n e t).long)) x (omega (arith, (meet_map n e t).long)));
    }

-- the listed names of a congruence stand for all elements where it is within e
pub names_represent : (a : Algebra) {count : ℕ} {f e : ℕ → ℕ} {names : List ℕ} → Canonical a.size f → Compatible a f → Within a.size f e
    → NamesAmong a.size f names count → Represented a names count e
names_represent a {f = f} c k t l = record {
  elements = record { room = l.room; below = l.small };
  name = f;
  canonical = c;
  compatible = k;
  within = t;
  listed = λ x lx. l.all (f x) (omega (arith, c.below x lx)) (c.named x lx);
}

-- the bound is made smaller
module _ {n : ℕ} {arities cells m names up : List ℕ} {marked : Pair} {x count : ℕ} (s : RowSettled n arities cells m names marked x count)
    (b : BoundLent (algebra_of n arities cells) up marked (byte m)) (parts : List ℕ) (two : TwoBlocks n x (byte m) (byte parts)) (met : List ℕ) (w : met ≡ written (meet n up parts) up) where
  e : Met n (byte up) (byte parts) (byte met)
  e = meet_met up parts met b.room w

  -- the map lies inside
  pub met_above : Within n (byte m) (byte met)
  met_above p q lp lq u = e.greatest p q lp lq (b.bound.above p q lp lq u) (two_within two p q lp lq u)

  pub met_represented : Represented (algebra_of n arities cells) names count (byte met)
  met_represented = names_represent (algebra_of n arities cells) s.settled.canonical s.settled.compatible met_above s.among

  pub met_canonical : Canonical n (byte met)
  met_canonical = e.canonical

  pub tightened : {h : ℕ → ℕ} → Refined (algebra_of n arities cells) (byte met) h → KeptPast n (byte met) h → Tightened (algebra_of n arities cells) marked.x marked.y x (byte m) (byte up) h
  tightened {h} r past =
      bound_row (algebra_of n arities cells) _ _ x s.below (byte m) s.settled (byte up) (byte parts) (byte met) h two b.bound e r past s.left s.right
