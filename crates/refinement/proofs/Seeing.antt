-- Naming the elements of a block anew: the table of those first seen, by the block to which the line takes them.
use Prim.Native.Nat.{ℕ, ◌+◌, ◌*◌, ◌≤◌, ◌<◌}
use mathlib.Core.List.{List}
use mathlib.Core.Path.{◌≡◌, refl, sym, ap, ◌∙◌}
use native.Mathlib.Decide.{dec_lt, ℕ_discrete}
use native.Mathlib.Omega.{arith}
use lib.ListN.{length, set, length-set}
use lib.Seq.{get_or-set_same, get_or-set_other}
use Rattle.equivalence.specs.Equivalence.{byte}
use Rattle.translation.specs.InnerLines.{line_at}
use Rattle.lattice.proofs.Meeting.{seen_or_yes, seen_or_no}
use Rattle.kernel.specs.InnerKernel.{Canonical, seen_or}
use Rattle.refinement.proofs.Splits.{each_written}
use Rattle.refinement.specs.InnerSplitting.{Only, Every, Alike, FirstInto, FirstsSeen, LineLent, Seen, row_at, RowsSeen, Renamed}

-- nothing is seen yet
pub firsts_seen_none : {t f seen : ℕ → ℕ} {name : ℕ} → ((v : ℕ) → v < 64 → seen v ≡ 64) → FirstsSeen t f name 0 seen
firsts_seen_none e = record {
  below = λ v l k. absurd (omega (arith, e v l));
  first = λ v l k. absurd (omega (arith, e v l));
  none = λ v l k z lz. absurd (omega arith);
}

module _ {n : ℕ} {t f : ℕ → ℕ} {name x : ℕ} (c : Canonical n f) (l : x < n) where
  -- an element of another block keeps its name
  pub alike_elsewhere : ¬ (f x ≡ name) → Alike t f (Only name) x (f x)
  unfolding Only
  alike_elsewhere h = record {
    low = c.below x l;
    before = c.named x l;
    after = λ e. absurd (h e);
    first = λ z k e q. absurd (omega (arith, c.below z (omega (arith, c.below x l))));
  }

  pub seen_elsewhere : {seen : ℕ → ℕ} → ¬ (f x ≡ name) → FirstsSeen t f name x seen → FirstsSeen t f name (x + 1) seen
  seen_elsewhere h s = record {
    below = λ v k q. omega (arith, s.below v k q);
    first = s.first;
    none = λ v k q z lz e i.
        elim (ℕ_discrete z x) [
          | yes p ↦ absurd (h (ap f (sym p) ∙ e))
          | no p ↦ s.none v k q z (omega arith) e i
        ];
  }

  -- an element whose image was met before is named by the first with that image
  pub alike_seen : {seen : ℕ → ℕ} → f x ≡ name → FirstsSeen t f name x seen → f (t x) < 64 → seen (f (t x)) < 64 → Alike t f (Only name) x (seen (f (t x)))
  unfolding Only
  alike_seen e s k q =
      let r = s.first (f (t x)) k q in
      record {
        low = omega (arith, s.below (f (t x)) k q);
        before = r.block ∙ sym e;
        after = λ p. r.image;
        first = λ z lz p i. r.first z lz (p ∙ e) (i e);
      }

  pub seen_seen : {seen : ℕ → ℕ} → f x ≡ name → FirstsSeen t f name x seen → f (t x) < 64 → seen (f (t x)) < 64 → FirstsSeen t f name (x + 1) seen
  seen_seen {seen} e s k q = record {
    below = λ v lv lq. omega (arith, s.below v lv lq);
    first = s.first;
    none = λ v lv lq z lz p i.
        elim (ℕ_discrete z x) [
          | yes o ↦
              let j : f (t x) ≡ v = ap (λ (y : ℕ). f (t y)) (sym o) ∙ i in
              let same : seen (f (t x)) ≡ seen v = ap seen j in
              absurd (omega arith)
          | no o ↦ s.none v lv lq z (omega arith) p i
        ];
  }

  -- any other is the first with its image
  first_into : {seen : ℕ → ℕ} → f x ≡ name → FirstsSeen t f name x seen → f (t x) < 64 → 64 ≤ seen (f (t x)) → FirstInto t f name (f (t x)) x
  first_into e s k q = record { block = e; image = refl; first = λ z lz p i. s.none (f (t x)) k q z lz p i }

  pub alike_first : {seen : ℕ → ℕ} → f x ≡ name → FirstsSeen t f name x seen → f (t x) < 64 → 64 ≤ seen (f (t x)) → Alike t f (Only name) x x
  unfolding Only
  alike_first e s k q = record {
    low = omega arith;
    before = refl;
    after = λ p. refl;
    first = λ z lz p i. s.none (f (t x)) k q z lz (p ∙ e) (i e);
  }

  pub seen_first : {seen seen' : ℕ → ℕ} → f x ≡ name → x < 64 → FirstsSeen t f name x seen → f (t x) < 64 → 64 ≤ seen (f (t x))
      → seen' (f (t x)) ≡ x → ((v : ℕ) → ¬ (v ≡ f (t x)) → seen' v ≡ seen v) → FirstsSeen t f name (x + 1) seen'
  seen_first {seen} {seen'} e lx s k q here there = record {
    below = λ v lv lq.
        elim (ℕ_discrete v (f (t x))) [
          | yes o ↦ let same : seen' v ≡ x = ap seen' o ∙ here in omega arith
          | no o ↦ let same : seen' v ≡ seen v = there v o in omega (arith, s.below v lv (omega arith))
        ];
    first = λ v lv lq.
        elim (ℕ_discrete v (f (t x))) [
          | yes o ↦ let same : seen' v ≡ x = ap seen' o ∙ here in rw (same, o) (first_into e s k q)
          | no o ↦ let same : seen' v ≡ seen v = there v o in rw same (s.first v lv (omega arith))
        ];
    none = λ v lv lq z lz p i.
        elim (ℕ_discrete v (f (t x))) [
          | yes o ↦ let same : seen' v ≡ x = ap seen' o ∙ here in absurd (omega arith)
          | no o ↦
              let same : seen' v ≡ seen v = there v o in
              elim (ℕ_discrete z x) [
                | yes r ↦ absurd (o (sym i ∙ ap (λ (y : ℕ). f (t y)) r))
                | no r ↦ s.none v lv (omega arith) z (omega arith) p i
              ]
        ];
  }

-- ---- rows

-- a row that is as it was
seen_same : {t f seen seen' : ℕ → ℕ} {name x : ℕ} → ((v : ℕ) → v < 64 → seen' v ≡ seen v) → FirstsSeen t f name x seen → FirstsSeen t f name x seen'
seen_same same s = record {
  below = λ v l k. omega (arith, same v l, s.below v l (omega (arith, same v l)));
  first = λ v l k. rw (same v l) (s.first v l (omega (arith, same v l)));
  none = λ v l k. s.none v l (omega (arith, same v l));
}

-- what is asked of x before it is looked up
pub line_seen : {n : ℕ} {m cells seen : List ℕ} {base stride row x : ℕ} → LineLent n m cells base stride → x < n → row * 64 + 64 ≤ length seen
    → FirstsSeen (line_at cells base stride) (byte m) (byte m x) x (row_at seen row) → Seen n m cells base stride row x seen
line_seen {x = x} p l r s =
    let v = p.map.below _ (p.line.inside x l) in
    record {
      canonical = p.map.canonical;
      small = p.map.small;
      room = p.map.room;
      element = l;
      inside = p.line.inside x l;
      below = v;
      image = omega (arith, p.map.canonical.below _ v);
      row_inside = r;
      firsts = s;
    }

-- what was seen in the row of its block, or x
pub seen_renamed : {n : ℕ} {m cells seen : List ℕ} {base stride row x y : ℕ} → Seen n m cells base stride row x seen → y ≡ seen_or (row_at seen row (byte m (line_at cells base stride x))) x
    → Renamed (line_at cells base stride) (byte m) row x seen (set seen (row * 64 + byte m (line_at cells base stride x)) y) y
seen_renamed {n} {m} {cells} {seen} {base} {stride} {row} {x} {y} i h =
    elim (dec_lt (row_at seen row image) 64) [
      | yes k ↦
          let p : y ≡ row_at seen row image = h ∙ seen_or_yes _ x k in
          record {
            alike = rw p (alike_seen i.canonical i.element refl i.firsts (omega (arith, i.image, i.small)) k);
            firsts = seen_same (λ v q. elim (ℕ_discrete v image) [ yes o ↦ rw o (new ∙ p) | no o ↦ old v o ]) (seen_seen i.canonical i.element refl i.firsts (omega (arith, i.image, i.small)) k);
            others = apart;
          }
      | no k ↦
          let p : y ≡ x = h ∙ seen_or_no _ x (omega arith) in
          record {
            alike = rw p (alike_first i.canonical i.element refl i.firsts (omega (arith, i.image, i.small)) (omega arith));
            firsts = seen_first i.canonical i.element refl (omega (arith, i.element, i.small)) i.firsts (omega (arith, i.image, i.small)) (omega arith) (new ∙ p) old;
            others = apart;
          }
    ]
  where
    image : ℕ
    image = byte m (line_at cells base stride x)

    new : row_at (set seen (row * 64 + image) y) row image ≡ y
    new = get_or-set_same seen (row * 64 + image) y 0 (omega (arith, i.image, i.small, i.row_inside))

    old : (v : ℕ) → ¬ (v ≡ image) → row_at (set seen (row * 64 + image) y) row v ≡ row_at seen row v
    old v o = get_or-set_other seen (row * 64 + image) (row * 64 + v) y 0 (λ q. o (omega arith))

    apart : (b v : ℕ) → (b ≡ row → ⊥) → v < 64 → row_at (set seen (row * 64 + image) y) b v ≡ row_at seen b v
    apart b v p q = get_or-set_other seen (row * 64 + image) (b * 64 + v) y 0 (λ o. p (omega (arith, i.image, i.small)))

-- ---- all rows

pub rows_none : {t f : ℕ → ℕ} {seen : List ℕ} → ((v : ℕ) → v < 4096 → byte seen v ≡ 64) → RowsSeen t f 0 seen
rows_none h = record { row = λ b l. firsts_seen_none (λ v k. h (b * 64 + v) (omega arith)) }

-- the row of the block of x
pub row_seen : {n : ℕ} {m cells seen : List ℕ} {base stride x : ℕ} → LineLent n m cells base stride → x < n → 4096 ≤ length seen → RowsSeen (line_at cells base stride) (byte m) x seen
    → Seen n m cells base stride (byte m x) x seen
row_seen {m = m} {x = x} p l r s =
    let k : byte m x < 64 = omega (arith, p.map.canonical.below x l, p.map.small) in
    line_seen p l (omega arith) (s.row (byte m x) k)

pub rows_more : {n : ℕ} {m cells seen seen' : List ℕ} {base stride x y : ℕ} → LineLent n m cells base stride → x < n → RowsSeen (line_at cells base stride) (byte m) x seen
    → Renamed (line_at cells base stride) (byte m) (byte m x) x seen seen' y → RowsSeen (line_at cells base stride) (byte m) (x + 1) seen'
rows_more {m = m} {x = x} p l s r = record {
  row = λ b lb.
      elim (ℕ_discrete b (byte m x)) [
        | yes q ↦ rw q r.firsts
        | no q ↦ seen_same (λ v k. r.others b v q k) (seen_elsewhere p.map.canonical l (λ o. q (sym o)) (s.row b lb))
      ];
}

-- where every block is split
pub renamed_all : {t f : ℕ → ℕ} {row x y : ℕ} {seen seen' : List ℕ} → Renamed t f row x seen seen' y → Alike t f Every x y
unfolding Only Every
renamed_all r = let a = r.alike in record { low = a.low; before = a.before; after = λ u. a.after refl; first = λ z l p i. a.first z l p (λ q. i tt) }

-- ---- the row of one block, which is row 0

-- ---- naming one element after the other

-- the elements below x have their new names
pub record Renaming (n : ℕ) (t f : ℕ → ℕ) (In : ℕ → Type 0) (x : ℕ) (next : List ℕ) : Type 0 where
  pub most : x ≤ n
  pub room : n ≤ length next
  pub named : (z : ℕ) → z < x → Alike t f In z (byte next z)

module _ {n : ℕ} {t f : ℕ → ℕ} {In : ℕ → Type 0} {next : List ℕ} where
  pub renaming_more : {x y : ℕ} → Renaming n t f In x next → x < n → Alike t f In x y → Renaming n t f In (x + 1) (set next x y)
  renaming_more {x} {y} s l a = record {
    most = omega arith;
    room = simp length-set s.room;
    named = each_written (λ z v. Alike t f In z v) next (omega (arith, s.room)) s.named a;
  }

pub renaming_every : {n : ℕ} {t f : ℕ → ℕ} {next : List ℕ} {row x y : ℕ} {seen seen' : List ℕ} → Renaming n t f Every x next → x < n → Renamed t f row x seen seen' y
    → Renaming n t f Every (x + 1) (set next x y)
renaming_every s l r = renaming_more s l (renamed_all r)
