-- The records of the search, as the functions hand them on: what each step asks for, and where the search stands after it.
use Prim.Native.Nat.{ℕ, ◌+◌, ◌-◌, ◌*◌, ◌≤◌, ◌<◌}
use mathlib.Core.List.{List}
use Rattle.std.specs.Prelude.{Bool, true, false}
use mathlib.Core.Path.{◌≡◌, refl, sym, ap, subst, ◌∙◌}
use native.Mathlib.Decide.{ℕ_discrete}
use native.Mathlib.Omega.{arith}
use mir.Syntax.{w64}
use mir.Val.{Fits}
use borrow.Author.Tests.{eq-eqb}
use lib.ListN.{length, set, length-set, replicate, length-replicate, get_or-replicate}
use Rattle.equivalence.specs.Equivalence.{byte}
use Rattle.equivalence.specs.declared.Pair.{Pair}
use Rattle.kernel.specs.InnerKernel.{Within, KeptPast}
use Rattle.kernel.proofs.Kernels.{names_identity}
use Rattle.algebra.specs.Accepted.{Accepted}
use Rattle.algebra.specs.Algebra.{algebra_of}
use Rattle.algebra.proofs.Accepted.{accepted_well_formed}
use Rattle.translation.specs.InnerTranslations.{Closed}
use Rattle.translation.proofs.Translations.{identity_compatible}
use Rattle.closure.specs.InnerStarts.{Extends, NamesListed}
use Rattle.closure.specs.InnerClosing.{NamesInUse, ApartMade, ApartIn}
use Rattle.closure.specs.declared.Congruence.{Congruence}
use Rattle.closure.proofs.Collections.{collected_most, count_of_names}
use Rattle.closure.proofs.Starting.{identity_use}
use Rattle.bounding.specs.InnerSettled.{Refused, Earliest}
use Rattle.bounding.specs.InnerBounds.{RowSettled, BoundLent, Tightened}
use Rattle.bounding.proofs.Settling.{settled_start, settled_pass, settled_take, settled_skip, settled_row, settled_skip_row}
use Rattle.bounding.proofs.Bounding.{bound_up, bound_refuses, bound_end}
use Rattle.separation.specs.InnerSearch.{Standing, StandingIn, Marks}
use Rattle.separation.proofs.Marking.{refusals_none, refusals_up, refusals_mark}

-- every element is a name of the identity, listed in its own place
identity_listed : (n : ℕ) (f : ℕ → ℕ) (names : List ℕ) → ((x : ℕ) → x < n → f x ≡ x) → ((x : ℕ) → x < n → byte names x ≡ x) → NamesListed n f names n
identity_listed n f names e l = record {
  small = λ i k. omega (arith, l i k);
  right = λ i k. let s : byte names i < n = omega (arith, l i k) in eq-eqb (f (byte names i)) (byte names i) (e (byte names i) s);
  all = λ x k t. (x, (k, l x k));
  once = λ i k lt h z. let a : byte names i ≡ i = l i (omega arith) in let b : byte names k ≡ k = l k h in omega arith;
  count = sym (names_identity n f e) ∙ sym (count_of_names f n);
}

module _ {n : ℕ} {arities cells m names places : List ℕ} {marked : Pair} where
  module _ {x y count : ℕ} (s : Standing n arities cells m names places marked x y count) where
    -- the pair is skipped, or its try was refused: the map stands
    module _ (lx : x < y) (ly : y < n) where
      pub standing_skip : ¬ (byte m y ≡ y) → Standing n arities cells m names places marked x (y + 1) count
      standing_skip d = record {
        accepted = s.accepted;
        size = s.size;
        map_room = s.map_room;
        padded = s.padded;
        left = s.left;
        right = s.right;
        settled = settled_skip (algebra_of n arities cells) _ _ x y (byte m) s.settled lx ly (λ p. d p.1);
        names_in_use = s.names_in_use;
      }

      pub standing_pass : Refused (algebra_of n arities cells) marked.x marked.y (byte m) x y
          → Standing n arities cells m names places marked x (y + 1) count
      standing_pass r = record {
        accepted = s.accepted;
        size = s.size;
        map_room = s.map_room;
        padded = s.padded;
        left = s.left;
        right = s.right;
        settled = settled_pass (algebra_of n arities cells) _ _ x y (byte m) s.settled lx ly r;
        names_in_use = s.names_in_use;
      }

      pub standing_spared : {up : List ℕ} → BoundLent (algebra_of n arities cells) up marked (byte m) → ¬ (byte up x ≡ byte up y) → Standing n arities cells m names places marked x (y + 1) count
      standing_spared b d = standing_pass (bound_refuses (algebra_of n arities cells) _ _ x y (omega arith) ly b.bound d)

      -- the pair is taken
      pub standing_take : (m' names' places' : List ℕ) (count' : ℕ) → length m' ≡ 64 → Closed (algebra_of n arities cells) (Extends n (byte m) x y) (byte m') → ¬ (byte m' marked.x ≡ byte m' marked.y)
          → NamesInUse n (byte m') names' places' count' → KeptPast n (byte m) (byte m') → Standing n arities cells m' names' places' marked x (y + 1) count'
      standing_take m' names' places' count' e d u l past = record {
        accepted = s.accepted;
        size = s.size;
        map_room = e;
        padded = λ z lz l64. past z lz ∙ s.padded z lz l64;
        left = s.left;
        right = s.right;
        settled = settled_take (algebra_of n arities cells) _ _ x y (byte m) s.settled lx ly (byte m') d u;
        names_in_use = l;
      }

      pub marks_refused : (table : List ℕ) → Marks (algebra_of n arities cells) table marked (byte m) → Refused (algebra_of n arities cells) marked.x marked.y (byte m) x y → Marks (algebra_of n arities cells) (set table (x * 64 + y) 1) marked (byte m)
      marks_refused table k r = record { room = length-set table (x * 64 + y) 1 ∙ k.room; rightly = refusals_mark (algebra_of n arities cells) _ _ (byte m) table x y s.size ly r k.rightly }

  -- the row is skipped, or at its end
  pub standing_skip_row : {x count : ℕ} → Standing n arities cells m names places marked x (x + 1) count → x < n → ¬ (byte m x ≡ x)
      → Standing n arities cells m names places marked (x + 1) (x + 2) count
  standing_skip_row {x} s l d = record {
    accepted = s.accepted;
    size = s.size;
    map_room = s.map_room;
    padded = s.padded;
    left = s.left;
    right = s.right;
    settled = settled_skip_row (algebra_of n arities cells) _ _ x (byte m) l d s.settled;
    names_in_use = s.names_in_use;
  }

  pub standing_row : {x y count : ℕ} → Standing n arities cells m names places marked x y count → y ≡ n → Standing n arities cells m names places marked (x + 1) (x + 2) count
  standing_row {x} s e = record {
    accepted = s.accepted;
    size = s.size;
    map_room = s.map_room;
    padded = s.padded;
    left = s.left;
    right = s.right;
    settled = settled_row (algebra_of n arities cells) _ _ x (byte m) (rw e at s.settled);
    names_in_use = s.names_in_use;
  }

  -- what a bound asks for
  pub row_settled : {x count : ℕ} → Standing n arities cells m names places marked (x + 1) (x + 2) count → x < n → RowSettled n arities cells m names marked x count
  row_settled {count = count} s l =
      let u = s.names_in_use in
      let few : count ≤ 64 = omega (arith, s.size, collected_most u.listed) in
      record {
        accepted = s.accepted;
        size = s.size;
        map_room = omega (arith, s.size, s.map_room);
        left = s.left;
        right = s.right;
        below = l;
        settled = s.settled;
        among = record { room = omega (arith, u.in_use.live_room); few = few; small = u.listed.small; all = λ y ly e. u.listed.all y ly (eq-eqb _ _ e) };
      }

  pub standing_next : (x : ℕ) {count : ℕ} → Standing n arities cells m names places marked (x + 1) (x + 2) count → Standing n arities cells m names places marked (x + 1) (x + 1 + 1) count
  standing_next x s = let e : x + 2 ≡ x + 1 + 1 = omega arith in rw e at s

  -- the search starts at the identity
  pub standing_start : Accepted (algebra_of n arities cells) → marked.x < n → marked.y < n → ¬ (marked.x ≡ marked.y) → length m ≡ 64 → length names ≡ 64 → length places ≡ 64
      → ((x : ℕ) → x < 64 → byte m x ≡ x) → ((x : ℕ) → x < 64 → byte names x ≡ x) → ((x : ℕ) → x < 64 → byte places x ≡ x) → Standing n arities cells m names places marked 0 1 n
  standing_start ok lv lw d e f g i j k =
      let small : n ≤ 64 = (accepted_well_formed _ ok).most in
      let same : (x : ℕ) → x < n → byte m x ≡ x = λ x lx. i x (omega arith) in
      record {
        accepted = ok;
        size = small;
        map_room = e;
        padded = λ z lz l64. i z l64;
        left = lv;
        right = lw;
        settled = settled_start (algebra_of n arities cells) _ _ (byte m) lv lw d same (identity_compatible (algebra_of n arities cells) (byte m) same);
        names_in_use = record { in_use = identity_use small f g j k; listed = identity_listed n (byte m) names same (λ x lx. j x (omega arith)) };
      }

-- no mark is set
pub marks_start : {n : ℕ} {arities cells : List ℕ} {marked : Pair} {f : ℕ → ℕ} → Accepted (algebra_of n arities cells) → Marks (algebra_of n arities cells) (replicate 4096 0) marked f
marks_start {n} {arities} {cells} {f = f} ok = record {
  room = length-replicate {A = ℕ} 4096 0;
  rightly = refusals_none (algebra_of n arities cells) _ _ f (replicate 4096 0) (accepted_well_formed _ ok).most (λ i l. get_or-replicate 4096 i 0 0 l);
}

-- a larger map
module _ {n : ℕ} {arities cells : List ℕ} (m m' : List ℕ) {marked : Pair} (w : Within n (byte m) (byte m')) where
  pub marks_up : {table : List ℕ} → Marks (algebra_of n arities cells) table marked (byte m) → Marks (algebra_of n arities cells) table marked (byte m')
  marks_up {table} k = record { room = k.room; rightly = refusals_up (algebra_of n arities cells) _ _ (byte m) (byte m') table w k.rightly }

  pub bound_lent_up : {names places up : List ℕ} {x y count : ℕ} → Standing n arities cells m' names places marked x y count → BoundLent (algebra_of n arities cells) up marked (byte m)
      → BoundLent (algebra_of n arities cells) up marked (byte m')
  bound_lent_up s b = record { room = b.room; bound = bound_up (algebra_of n arities cells) _ _ w s.settled.compatible s.settled.apart b.bound }

-- ---- a try

module _ {n : ℕ} {arities cells : List ℕ} {marked : Pair} {x y : ℕ} {c : Congruence} (s : StandingIn n arities cells c marked x y) (lx : x < y) (ly : y < n) {table : List ℕ}
    (k : Marks (algebra_of n arities cells) table marked (byte c.map)) where
  -- the marked elements stay apart
  pub try_taken : (d : Congruence) {r : Bool} → ApartIn (algebra_of n arities cells) x y marked.x marked.y c d r → r ≡ true
      → StandingIn n arities cells d marked x (y + 1) × Marks (algebra_of n arities cells) table marked (byte d.map) × Within n (byte c.map) (byte d.map)
  try_taken d made t =
      let told = subst (λ (r : Bool). ApartIn (algebra_of n arities cells) x y marked.x marked.y c d r) t made in
      let e : ApartMade (algebra_of n arities cells) x y marked.x marked.y (byte c.map) d = told.1 in
      (standing_take s lx ly d.map d.names.list d.names.places d.names.count told.0 e.closed e.apart e.left e.rest, marks_up c.map d.map e.closed.good.0 k, e.closed.good.0)

  -- they do not
  pub try_refused : (d : Congruence) {r : Bool} → ApartIn (algebra_of n arities cells) x y marked.x marked.y c d r → r ≡ false
      → StandingIn n arities cells d marked x (y + 1) × Marks (algebra_of n arities cells) (set table (x * 64 + y) 1) marked (byte d.map) × Within n (byte c.map) (byte d.map)
  try_refused d left t =
      let e = subst (λ (r : Bool). ApartIn (algebra_of n arities cells) x y marked.x marked.y c d r) t left in
      let refused : Refused (algebra_of n arities cells) marked.x marked.y (byte c.map) x y = λ g good up h. e.1 g good (up, h) in
      subst
      (λ (d : Congruence). StandingIn n arities cells d marked x (y + 1) × Marks (algebra_of n arities cells) (set table (x * 64 + y) 1) marked (byte d.map) × Within n (byte c.map) (byte d.map))
      (sym e.0)
      (standing_pass s lx ly refused, marks_refused s lx ly table k refused, λ p q lp lq i. i)

-- ---- row after row

-- the rows before x are settled; the bound `up`, which was up₀, spares pairs, and x is not behind v's row as long as it joins v and w
pub record Rows (n : ℕ) (arities cells up₀ m names places table up : List ℕ) (marked : Pair) (v w count trials x : ℕ) : Type 0 where
  pub left : v ≡ marked.x
  pub right : w ≡ marked.y
  pub row : byte up v ≡ byte up w → x ≤ v
  pub few : trials ≤ 64 * x
  pub behind : x ≤ n
  pub long : length up ≡ length up₀
  pub rest : KeptPast n (byte up₀) (byte up)
  pub standing : Standing n arities cells m names places marked x (x + 1) count
  pub marks : Marks (algebra_of n arities cells) table marked (byte m)
  pub bound : BoundLent (algebra_of n arities cells) up marked (byte m)

module _ {n : ℕ} {arities cells : List ℕ} {marked : Pair} where
  pub rows_start : {m names places table up : List ℕ} {count : ℕ} → BoundLent (algebra_of n arities cells) up marked (byte m) → Standing n arities cells m names places marked 0 1 count
      → Marks (algebra_of n arities cells) table marked (byte m) → Rows n arities cells up m names places table up marked marked.x marked.y count 0 0
  rows_start b s k = record { left = refl; right = refl; row = λ e. omega arith; few = omega arith; behind = omega arith; long = refl; rest = λ z l. refl; standing = s; marks = k; bound = b }

  module _ {up₀ m names places table up : List ℕ} {v w count trials x : ℕ} (r : Rows n arities cells up₀ m names places table up marked v w count trials x) where
    pub row_below : byte up v ≡ byte up w → x < n
    row_below e = omega (arith, r.row e, r.left, r.standing.left)

    pub row_less : byte up v ≡ byte up w → v + 1 - (x + 1) < v + 1 - x
    row_less e = omega (arith, r.row e)

    pub row_fits : byte up v ≡ byte up w → Fits w64 (x + 1)
    row_fits e = omega (arith, row_below e, r.standing.size)

    pub rows_more : {m' names' places' table' up' : List ℕ} {count' : ℕ} (tried : ℕ) → byte up v ≡ byte up w → tried ≤ n → Standing n arities cells m' names' places' marked (x + 1) (x + 2) count'
        → Marks (algebra_of n arities cells) table' marked (byte m') → length up' ≡ length up → Tightened (algebra_of n arities cells) marked.x marked.y x (byte m') (byte up) (byte up')
        → Rows n arities cells up₀ m' names' places' table' up' marked v w count' (trials + tried) (x + 1)
    rows_more {up' = up'} tried e l s marks long t = record {
      left = r.left;
      right = r.right;
      row = λ i. elim (ℕ_discrete x marked.x) [
        | yes z ↦ absurd (t.apart z (ap (byte up') (sym r.left) ∙ i ∙ ap (byte up') r.right))
        | no z ↦ omega (arith, r.row e, r.left)
      ];
      few = omega (arith, r.few, s.size);
      behind = omega (arith, row_below e);
      long = long ∙ r.long;
      rest = λ z h. t.rest z h ∙ r.rest z h;
      standing = standing_next x s;
      marks = marks;
      bound = record { room = omega (arith, r.bound.room); bound = t.bound };
    }

    pub rows_end : ¬ (byte up v ≡ byte up w) → Earliest (algebra_of n arities cells) marked.x marked.y (byte up)
    rows_end d =
        bound_end (algebra_of n arities cells) _ _ x (byte m) (byte up) r.standing.settled r.bound.bound
        (λ e. d (ap (byte up) r.left ∙ e ∙ sym (ap (byte up) r.right)))
