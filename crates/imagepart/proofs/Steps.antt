-- Bytes laid one behind the other: two parts, a loop that lays eight parts of one length, and parts that fill all of what is lent.
use Prim.Native.Nat.{ℕ, suc, ◌+◌, ◌*◌, ◌≤◌, ◌<◌}
use mathlib.Core.List.{List, [], ◌∷◌, ◌++◌, map, map-append, append-nil}
use mathlib.Core.Path.{◌≡◌, refl, sym, ap, ◌∙◌}
use native.Mathlib.Nat.{suc-mul, mul-le-mul_right}
use native.Mathlib.Numerals.{add-one}
use native.Mathlib.Omega.{arith}
use lib.ListN.{length, get_or, take, length-append, drop_of_length-le}
use lib.Seq.{take_all, take-suc}
use Rattle.equivalence.specs.Lent.{laid, written}
use Rattle.equivalence.specs.Lists.{concat}
use Rattle.equivalence.proofs.Laying.{laid_laid, laid_length, laid_nothing}
use Rattle.equivalence.proofs.Stretches.{concat_append}
use Rattle.imagepart.specs.InnerSteps.{Laid}

-- one part behind another
pub laid_then : (v w to : ℕ) (one two before mid after : List ℕ) → Laid v one to before mid → Laid w two (to + v) mid after → to + v ≤ length before
    → Laid (v + w) (one ++ two) to before after
laid_then v w to one two before mid after l r h =
    let a = l.long in
    let b = r.long in
    record {
      long = rw (length-append one two) (omega arith);
      bytes = r.bytes ∙ ap (λ (m : List ℕ). laid m (to + v) two) l.bytes ∙ rw (← a) (laid_laid before to one two (omega arith));
    }

-- as many bytes as before
pub laid_same : (w to : ℕ) (new before after : List ℕ) → Laid w new to before after → to + w ≤ length before → length after ≡ length before
laid_same w to new before after l h = let a = l.long in ap length l.bytes ∙ laid_length before to new (omega arith)

-- all that is lent
pub laid_whole : (w : ℕ) (new before after : List ℕ) → Laid w new 0 before after → length before ≡ w → after ≡ new
unfolding laid written
laid_whole w new before after l e =
    let a = l.long in
    l.bytes ∙ ap (λ (rest : List ℕ). new ++ rest) (drop_of_length-le before {i = length new} (omega arith)) ∙ append-nil new

-- ---- the loop that lays eight parts

-- the parts of the first i of eight elements are laid, w bytes each
pub record Laying {A : Type 0} (f : A → List ℕ) (l : List A) (w to : ℕ) (before : List ℕ) (i : ℕ) (after : List ℕ) : Type 0 where
  pub eight : length l ≡ 8
  pub within : i ≤ 8
  pub same : length after ≡ length before
  pub parts : Laid (i * w) (concat (map f (take i l))) to before after

module _ {A : Type 0} (f : A → List ℕ) (l : List A) (w to : ℕ) (before : List ℕ) where
  pub laying_none : length l ≡ 8 → Laying f l w to before 0 before
  unfolding concat
  laying_none e =
      record { eight = e; within = omega arith; same = refl; parts = record { long = omega arith; bytes = sym (laid_nothing before to) } }

  parts_more : (i : ℕ) (d : A) → i < length l → concat (map f (take (suc i) l)) ≡ concat (map f (take i l)) ++ f (get_or l i d)
  unfolding concat
  parts_more i d h =
      ap (λ (k : List A). concat (map f k)) (take-suc l i d h)
      ∙ ap concat (map-append f (take i l) (get_or l i d ∷ []))
      ∙ concat_append (map f (take i l)) (f (get_or l i d) ∷ [])
      ∙ ap (λ (k : List ℕ). concat (map f (take i l)) ++ k) (append-nil (f (get_or l i d)))

  pub laying_more : (i at : ℕ) (d : A) (mid after : List ℕ) → Laying f l w to before i mid → i < 8 → to + 8 * w ≤ length before → at ≡ to + i * w
      → Laid w (f (get_or l i d)) at mid after → Laying f l w to before (i + 1) after
  laying_more i at d mid after k h room e r =
      let end : suc i * w ≡ i * w + w = suc-mul i w in
      let most : suc i * w ≤ 8 * w = mul-le-mul_right w h in
      let next = laid_then (i * w) w to (concat (map f (take i l))) (f (get_or l i d)) before mid after k.parts (rw (← e) r) (omega arith) in
      record {
        eight = k.eight;
        within = omega arith;
        same = laid_same w at (f (get_or l i d)) mid after r (omega (arith, k.same)) ∙ k.same;
        parts = rw (add-one i, end, parts_more i d (omega (arith, k.eight))) next;
      }

  pub laying_all : (i : ℕ) (after : List ℕ) → Laying f l w to before i after → 8 ≤ i → Laid (8 * w) (concat (map f l)) to before after
  laying_all i after k h =
      let e : i ≡ 8 = omega (arith, k.within) in
      let all : take 8 l ≡ l = take_all 8 l (omega (arith, k.eight)) in
      rw all at (rw e at k.parts)
