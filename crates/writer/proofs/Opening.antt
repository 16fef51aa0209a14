-- Bytes laid with one open byte behind them: nothing yet, one number more, what closes them, and their first byte replaced.
use Prim.Native.Nat.{ℕ, suc, ◌+◌, ◌≤◌, ◌<◌}
use mathlib.Core.List.{List, [], ◌∷◌, ◌++◌, append_assoc}
use mathlib.Core.Path.{◌≡◌, refl, ap, sym, ◌∙◌}
use native.Mathlib.Omega.{arith}
use lib.ListN.{length, get_or, take, drop, set, length-append}
use lib.Seq.{set-get_or, set-set, set-append_seam, length-take-le}
use Rattle.equivalence.specs.Lent.{laid}
use Rattle.equivalence.proofs.Laying.{laid_parts, laid_byte, laid_length, laid_laid}
use Rattle.tablereader.specs.Laying.{Laid}
use Rattle.tablereader.proofs.Laying.{laid_more}
use Rattle.writer.specs.InnerRoom.{LaidOpen}

-- the byte that stands there laid again
laid_same : (lent : List ℕ) (at : ℕ) → at < length lent → laid lent at (get_or lent at 0 ∷ []) ≡ lent
laid_same lent at h = sym (laid_byte lent at (get_or lent at 0) h) ∙ set-get_or lent at 0

-- a byte that is overwritten
laid_again : (lent : List ℕ) (at x b : ℕ) (rest : List ℕ) → at < length lent → laid (laid lent at (x ∷ [])) at (b ∷ rest) ≡ laid lent at (b ∷ rest)
laid_again lent at x b rest h =
    let over : List ℕ = laid lent at (x ∷ []) in
    let long : length over ≡ length lent = laid_length lent at (x ∷ []) (omega arith) in
    let one : laid over at (b ∷ []) ≡ laid lent at (b ∷ []) =
    sym (laid_byte over at b (omega arith)) ∙ ap (λ (l : List ℕ). set l at b) (sym (laid_byte lent at x h)) ∙ set-set lent at x b ∙ laid_byte lent at b h in
    sym (laid_laid over at (b ∷ []) rest (omega arith)) ∙ ap (λ (l : List ℕ). laid l (at + 1) rest) one ∙ laid_laid lent at (b ∷ []) rest (omega arith)

-- the open byte is laid too
open_laid : {lent : List ℕ} {put : ℕ} {new after : List ℕ} {end : ℕ} (p : LaidOpen lent put new after end) → Laid lent put (new ++ (p.over ∷ [])) after (end + 1)
open_laid {new = new} p =
    record {
      place = omega (arith, p.place, length-append new (p.over ∷ []));
      within = omega (arith, p.within);
      long = p.long;
      bytes = p.bytes;
    }

-- the last byte that was laid counts as open
pub laid_cut : (lent : List ℕ) (put : ℕ) (new : List ℕ) (x : ℕ) (after : List ℕ) (end : ℕ) → Laid lent put (new ++ (x ∷ [])) after (end + 1) → LaidOpen lent put new after end
laid_cut lent put new x after end p =
    record {
      place = omega (arith, p.place, length-append new (x ∷ []));
      within = omega (arith, p.within);
      long = p.long;
      over = x;
      bytes = p.bytes;
    }

module _ (lent : List ℕ) (put : ℕ) where
  -- where there is room behind what was laid, the byte behind it counts as open
  pub open_of : (new after : List ℕ) (end : ℕ) → Laid lent put new after end → end < length lent → LaidOpen lent put new after end
  open_of new after end p h =
      let l : end < length after = omega (arith, p.long) in
      let x : ℕ = get_or after end 0 in
      laid_cut lent put new x after end
      (laid_more lent put new after end (x ∷ []) after (end + 1) p
      (record { place = omega arith; within = omega arith; long = refl; bytes = sym (laid_same after end l) }))

  pub open_in_room : (new after : List ℕ) (end : ℕ) → put + length new + 2 ≤ length lent → Laid lent put new after end → LaidOpen lent put new after end
  open_in_room new after end room p = open_of new after end p (omega (arith, p.place))

  -- bytes behind it, one at least, close it
  pub open_closed : (a mid : List ℕ) (at b : ℕ) (rest after : List ℕ) (end : ℕ) → LaidOpen lent put a mid at → Laid mid at (b ∷ rest) after end
      → Laid lent put (a ++ (b ∷ rest)) after end
  open_closed a mid at b rest after end p q =
      let room : put + length a ≤ length lent = omega (arith, p.place, p.within) in
      let first : List ℕ = laid lent put a in
      let long : length first ≡ length lent = laid_length lent put a room in
      let e : mid ≡ laid first at (p.over ∷ []) =
      p.bytes ∙ sym (laid_laid lent put a (p.over ∷ []) room) ∙ ap (λ (k : ℕ). laid first k (p.over ∷ [])) (sym p.place) in
      let again : laid mid at (b ∷ rest) ≡ laid first at (b ∷ rest) =
      ap (λ (l : List ℕ). laid l at (b ∷ rest)) e ∙ laid_again first at p.over b rest (omega (arith, p.within)) in
      let both : laid first at (b ∷ rest) ≡ laid lent put (a ++ (b ∷ rest)) =
      ap (λ (k : ℕ). laid first k (b ∷ rest)) p.place ∙ laid_laid lent put a (b ∷ rest) room in
      record {
        place = omega (arith, p.place, q.place, length-append a (b ∷ rest));
        within = omega (arith, q.within, p.long);
        long = q.long ∙ p.long;
        bytes = q.bytes ∙ again ∙ both;
      }

  -- open bytes behind open ones
  pub open_more : (a mid : List ℕ) (at b : ℕ) (rest after : List ℕ) (end : ℕ) → LaidOpen lent put a mid at → LaidOpen mid at (b ∷ rest) after end
      → LaidOpen lent put (a ++ (b ∷ rest)) after end
  open_more a mid at b rest after end p q =
      let x : ℕ = q.over in
      laid_cut lent put (a ++ (b ∷ rest)) x after end
      (rw (append_assoc a (b ∷ rest) (x ∷ [])) (open_closed a mid at b (rest ++ (x ∷ [])) after (end + 1) p (open_laid q)))

  -- the first of the bytes that were laid, replaced
  pub first_replaced : (b c : ℕ) (rest mid : List ℕ) (end : ℕ) (after : List ℕ) (at : ℕ) → Laid lent put (b ∷ rest) mid end → Laid mid put (c ∷ []) after at
      → Laid lent put (c ∷ rest) after end
  first_replaced b c rest mid end after at p q =
      let front : List ℕ = take put lent in
      let back : List ℕ = rest ++ drop (put + suc (length rest)) lent in
      let e : length front ≡ put = length-take-le put lent (omega (arith, p.place, p.within)) in
      let seam : set (front ++ (b ∷ back)) put c ≡ front ++ (c ∷ back) = rw e at (set-append_seam front b back c) in
      record {
        place = omega (arith, p.place);
        within = p.within;
        long = q.long ∙ p.long;
        bytes =
            q.bytes ∙ sym (laid_byte mid put c (omega (arith, q.place, q.within)))
            ∙ ap (λ (l : List ℕ). set l put c) (p.bytes ∙ laid_parts lent put (b ∷ rest)) ∙ seam ∙ sym (laid_parts lent put (c ∷ rest));
      }
