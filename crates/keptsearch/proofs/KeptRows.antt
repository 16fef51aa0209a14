-- Row after row, and the bound after a row: the records that the search by kept pairs hands on.
use Prim.Native.Nat.{ℕ, ◌+◌, ◌-◌, ◌≤◌, ◌<◌}
use mathlib.Core.Bool.{Bool, true}
use mathlib.Core.List.{List}
use mathlib.Core.Logic.{inl, inr}
use mathlib.Core.Path.{◌≡◌, refl, sym, ap, ◌∙◌}
use native.Mathlib.Decide.{ℕ_discrete}
use native.Mathlib.Omega.{arith}
use mir.Syntax.{w64}
use mir.Val.{Fits}
use lib.ListN.{length}
use Rattle.equivalence.specs.Equivalence.{byte}
use Rattle.equivalence.specs.declared.Pair.{Pair}
use Rattle.kernel.specs.InnerKernel.{Canonical, KeptPast}
use Rattle.algebra.specs.Accepted.{Accepted}
use Rattle.algebra.specs.Algebra.{Algebra, algebra_of}
use Rattle.algebra.proofs.Accepted.{accepted_well_formed}
use Rattle.translation.specs.InnerTranslations.{Refined}
use Rattle.translation.proofs.Translations.{identity_compatible}
use Rattle.refinement.specs.InnerSplitting.{Represented}
use Rattle.keeping.specs.InnerInside.{Proved}
use Rattle.keeping.proofs.Insides.{names_meet}
use Rattle.bounding.specs.InnerSettled.{Earliest}
use Rattle.bounding.specs.InnerBounds.{NamesAmong, RowSettled, BoundLent, Tightened}
use Rattle.bounding.proofs.Settling.{settled_start, settled_grows}
use Rattle.bounding.proofs.Bounding.{bound_up, bound_end}
use Rattle.keptsearch.specs.InnerRows.{KeptStanding}

-- the search starts at the identity
pub kept_start : {n : ℕ} {arities cells m : List ℕ} {marked : Pair} → Accepted (algebra_of n arities cells) → length m ≡ 64 → marked.x < n → marked.y < n → ¬ (marked.x ≡ marked.y)
    → ((x : ℕ) → x < 64 → byte m x ≡ x) → KeptStanding n arities cells m marked 0 1
kept_start {n} {arities} {cells} {m} ok room lv lw d i =
    let small : n ≤ 64 = (accepted_well_formed _ ok).most in
    let same : (x : ℕ) → x < n → byte m x ≡ x = λ x lx. i x (omega arith) in
    record {
      accepted = ok;
      size = small;
      map_room = room;
      padded = λ z lz l64. i z l64;
      left = lv;
      right = lw;
      settled = settled_start (algebra_of n arities cells) _ _ (byte m) lv lw d same (identity_compatible (algebra_of n arities cells) (byte m) same);
    }

-- what a bound asks for
pub kept_row : {n : ℕ} {arities cells m names : List ℕ} {marked : Pair} {x count : ℕ} → KeptStanding n arities cells m marked (x + 1) (x + 2) → x < n → NamesAmong n (byte m) names count
    → RowSettled n arities cells m names marked x count
kept_row s l a = record {
  accepted = s.accepted;
  size = s.size;
  map_room = omega (arith, s.size, s.map_room);
  left = s.left;
  right = s.right;
  below = l;
  settled = s.settled;
  among = a;
}

-- the rows before x are settled in m, and `up`, which was up₀, is a bound; x is not behind v's row as long as it joins v and w
pub record Rows (n : ℕ) (arities cells up₀ m up : List ℕ) (marked : Pair) (v w x : ℕ) : Type 0 where
  pub left : v ≡ marked.x
  pub right : w ≡ marked.y
  pub row : byte up v ≡ byte up w → x ≤ v
  pub long : length up ≡ length up₀
  pub rest : KeptPast n (byte up₀) (byte up)
  pub standing : KeptStanding n arities cells m marked x (x + 1)
  pub bound : BoundLent (algebra_of n arities cells) up marked (byte m)

module _ {n : ℕ} {arities cells : List ℕ} {marked : Pair} where
  pub rows_start : {m up : List ℕ} → KeptStanding n arities cells m marked 0 1 → BoundLent (algebra_of n arities cells) up marked (byte m) → Rows n arities cells up m up marked marked.x marked.y 0
  rows_start s b = record { left = refl; right = refl; row = λ e. omega arith; long = refl; rest = λ z l. refl; standing = s; bound = b }

  -- a bound of m is one of what m has grown to
  pub bound_grown : {m m' up : List ℕ} {x : ℕ} → KeptStanding n arities cells m marked x (x + 1) → KeptStanding n arities cells m' marked (x + 1) (x + 2) → BoundLent (algebra_of n arities cells) up marked (byte m)
      → BoundLent (algebra_of n arities cells) up marked (byte m')
  bound_grown {m} {m'} {x = x} s t b = record {
    room = b.room;
    bound = bound_up (algebra_of n arities cells) _ _
        (settled_grows (algebra_of n arities cells) _ _ x (x + 1) (x + 1) (x + 2) (byte m) (byte m') s.settled t.settled
        (λ p q before. elim before [ inl o ↦ inl (omega arith) | inr o ↦ inl (omega (arith, o.0)) ]))
        t.settled.compatible t.settled.apart b.bound;
  }

  module _ {up₀ m up : List ℕ} {v w x : ℕ} (r : Rows n arities cells up₀ m up marked v w x) where
    pub row_below : byte up v ≡ byte up w → x < n
    row_below e = omega (arith, r.row e, r.left, r.standing.left)

    pub row_fits : byte up v ≡ byte up w → Fits w64 (x + 1)
    row_fits e = omega (arith, row_below e, r.standing.size)

    pub row_less : byte up v ≡ byte up w → v + 1 - (x + 1) < v + 1 - x
    row_less e = omega (arith, r.row e)

    pub rows_more : (m' up' : List ℕ) → byte up v ≡ byte up w → KeptStanding n arities cells m' marked (x + 1) (x + 2) → length up' ≡ length up
        → Tightened (algebra_of n arities cells) marked.x marked.y x (byte m') (byte up) (byte up') → Rows n arities cells up₀ m' up' marked v w (x + 1)
    rows_more m' up' e s long t = record {
      left = r.left;
      right = r.right;
      row = λ i. elim (ℕ_discrete x marked.x) [
        | yes z ↦ absurd (t.apart z (ap (byte up') (sym r.left) ∙ i ∙ ap (byte up') r.right))
        | no z ↦ omega (arith, r.row e, r.left)
      ];
      long = long ∙ r.long;
      rest = λ z h. t.rest z h ∙ r.rest z h;
      standing = let k : x + 2 ≡ x + 1 + 1 = omega arith in rw k at s;
      bound = record { room = omega (arith, r.bound.room); bound = t.bound };
    }

    pub rows_end : ¬ (byte up v ≡ byte up w) → Earliest (algebra_of n arities cells) marked.x marked.y (byte up)
    rows_end d =
        bound_end (algebra_of n arities cells) _ _ x (byte m) (byte up) r.standing.settled r.bound.bound
        (λ e. d (ap (byte up) r.left ∙ e ∙ sym (ap (byte up) r.right)))

-- ---- a bound that kept pairs show to be a congruence

module _ {a : Algebra} {names : List ℕ} {count : ℕ} {e : ℕ → ℕ} (h : Represented a names count e) (c : Canonical a.size e) where
  -- it is then the greatest congruence inside itself
  pub proved_refined : {maps marks : List ℕ} {r : Bool} → Proved a names count e maps marks r → r ≡ true → Refined a e e
  proved_refined p said = record {
    canonical = c;
    compatible = p.compatible said h.name h.compatible h.within (names_meet names h.canonical h.listed);
    within = λ x y lx ly i. i;
    greatest = λ g cg w. w;
  }
